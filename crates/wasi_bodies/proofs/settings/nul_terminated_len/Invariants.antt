use Rattle.std.proofs.Common.{◌≡◌, ◌≤◌, ◌+◌, ◌-◌, ◌^◌, min, drop}
use Rattle.wasi_bodies.specs.supplies.Texts.{ended_bytes}
use Rattle.wasi_bodies.proofs.settings.nul_terminated_len.Given as goal

abbrev pub invariant-loop-text : goal.invariant-loop-text
invariant-loop-text l =
    (min (l.len + ended_bytes (drop l.text-index l.texts)) (2 ^ 64 - 1) ≡ min (ended_bytes l.texts) (2 ^ 64 - 1))
    × (l.len ≤ 2 ^ 64 - 1)
