use Rattle.std.proofs.Common.{◌≡◌, ◌-◌, vec_len}
use Rattle.sandbox_device.proofs.replacing.write_zeros.Given as goal

abbrev pub invariant-loop-at : goal.invariant-loop-at
invariant-loop-at g l = vec_len l.zeros ≡ 65536

abbrev pub decreases-loop-at : goal.decreases-loop-at
decreases-loop-at g l = l.to - l.at
