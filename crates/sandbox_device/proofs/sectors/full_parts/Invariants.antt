use Rattle.std.proofs.Common.{◌≡◌, replicate}
use Rattle.sandbox_device.proofs.sectors.full_parts.Given as goal

-- so many are made
abbrev pub invariant-loop : goal.invariant-loop
invariant-loop l = l.parts.items ≡ replicate l.counter (replicate 131072 (replicate 512 0))
