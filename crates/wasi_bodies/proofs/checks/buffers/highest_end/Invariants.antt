use Rattle.std.proofs.Common.{ℕ, ◌+◌, ◌<◌, ◌≤◌, get_or}
use Rattle.wasi_bodies.proofs.checks.buffers.highest_end.Given as goal

abbrev pub invariant-loop-buffer : goal.invariant-loop-buffer
invariant-loop-buffer l = (i : ℕ) → i < l.buffer-index → (get_or l.buffers i (record { pointer = 0; len = 0 })).pointer + (get_or l.buffers i (record { pointer = 0; len = 0 })).len ≤ l.highest
