use Rattle.std.proofs.Common.{◌≡◌, ◌-◌, vec_len}
use Rattle.sandbox_device.proofs.replacing.fill_holes.Given as goal

abbrev pub invariant-loop-at : goal.invariant-loop-at
invariant-loop-at g l = vec_len l.piece ≡ 65536

abbrev pub decreases-loop-at : goal.decreases-loop-at
decreases-loop-at g l = l.count - l.at
