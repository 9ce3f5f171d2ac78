-- What a call of an instance answers, as a number.
use Rattle.std.proofs.Common.{◌≡◌, ◌≢◌, ℕ, List, Result, Ok, Err, MatchResult, IfOk, IfErr, subst, inr}
use Rattle.plugin_session.specs.declared.handling.Misuse.{Misuse}
use Rattle.sandbox_host.specs.Instances.{Answered, Living, NoCall, RefusesCallOf}
use Rattle.sandbox_host.specs.Numbers.{misuse_number}

-- 0 where it did this, and else nothing has changed, for this reason
pub told_of : (r : Result (Unit {0}) Misuse) (n : ℕ) (old new : Living) (did : Type 0) (reason : Misuse → Type 0) → MatchResult r (λ u. n ≡ 0) (λ m. (n ≡ misuse_number m) × (n ≢ 0)) → IfOk r (λ u. did) → IfErr r (λ m. (new ≡ old) × reason m) → Answered n old new did reason
told_of (Ok u) n old new did reason told done refused = (λ zero. done, λ some. absurd (some told))
told_of (Err m) n old new did reason told done refused = (λ zero. absurd (told.1 zero), λ some. (refused.0, (m, told.0, refused.1)))

-- the reason for the bytes of a name
pub by_name : (r : Result (Unit {0}) Misuse) (old new : Living) (name text arguments : List ℕ) → text ≡ name → IfErr r (λ m. (new ≡ old) × RefusesCallOf old text arguments m) → IfErr r (λ m. (new ≡ old) × NoCall old name arguments m)
by_name (Ok u) old new name text arguments same k = k
by_name (Err m) old new name text arguments same k = (k.0, inr (subst (λ (n : List ℕ). RefusesCallOf old n arguments m) same k.1))
