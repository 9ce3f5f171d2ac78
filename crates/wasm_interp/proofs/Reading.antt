-- A number of a list.
use Rattle.std.proofs.Common.{◌≡◌, ℕ, zero, suc, ◌<◌, List, [], ◌∷◌, Some, length, refl, arith}
use Rattle.std.specs.Prelude.{slice_get, slice_index}

pub number_read : (xs : List ℕ) (k : ℕ) → k < length xs → slice_get xs k ≡ Some (slice_index xs k)
number_read [] k lt = absurd (omega (arith, lt))
number_read (x ∷ xs) zero lt = refl
number_read (x ∷ xs) (suc k) lt = number_read xs k (omega (arith, lt))
