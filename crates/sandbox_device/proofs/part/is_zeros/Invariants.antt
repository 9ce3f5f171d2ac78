use Rattle.std.proofs.Common.{◌≡◌, ◌<◌, ℕ, get_or}
use Rattle.sandbox_device.proofs.part.is_zeros.Given as goal

-- where the largest so far is 0, so is each byte
abbrev pub invariant-loop-byte : goal.invariant-loop-byte
invariant-loop-byte l = l.largest ≡ 0 → (k : ℕ) → k < l.byte-index → get_or l.image k 0 ≡ 0
