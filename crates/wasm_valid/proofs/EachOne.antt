-- What a test of each element of a list answered.
use Rattle.std.proofs.Common.{ℕ, ◌<◌, IsTrue, ◌↔◌, Bool, true, false, List, [], ◌∷◌, length, All, MatchBool, refl, arith}
use Rattle.std.specs.List.{HoldsAt, AllWithin}
use Rattle.std.proofs.lemmas.Bool.{false≢true}
use Rattle.std.proofs.lemmas.List.Elements.{All-from_all_within}

-- one element lacks it
lacks : {X : Type 0} (P : X → Type 0) (xs : List X) (k : ℕ) → k < length xs → HoldsAt (λ x. P x → ⊥) xs k → All P xs → ⊥
lacks P [] k below h a = absurd (omega arith)
lacks P (x ∷ xs) k below h a = h x (a k x below)

-- what `all` answered
pub answered : {X : Type 0} (P : X → Type 0) (r : Bool) (xs : List X) → MatchBool r (AllWithin P xs 0 (length xs)) ((k : ℕ) × (k < length xs) × HoldsAt (λ x. P x → ⊥) xs k) → IsTrue r ↔ All P xs
answered P true xs h = ((λ t. All-from_all_within P xs h), (λ a. refl))
answered P false xs h = ((λ t. absurd (false≢true t)), (λ a. absurd (lacks P xs h.0 h.1 h.2 a)))
