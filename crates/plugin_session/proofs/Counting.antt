-- A list of results, by how many there are.
use Rattle.std.proofs.Common.{◌≡◌, ℕ, ◌<◌, ◌≤◌, List, [], ◌∷◌, length, get_or, refl, arith}

-- no result, and one
pub no_results : (ns : List ℕ) → length ns < 1 → ns ≡ []
no_results [] few = refl
no_results (n ∷ ns) few = absurd (omega arith)

pub one_result : (ns : List ℕ) → 1 ≤ length ns → length ns < 2 → ns ≡ get_or ns 0 0 ∷ []
one_result [] some few = absurd (omega arith)
one_result (n ∷ []) some few = refl
one_result (n ∷ (m ∷ ns)) some few = absurd (omega arith)
