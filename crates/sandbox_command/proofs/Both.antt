-- Results that are put together: the errors and the values of each.
use Rattle.std.proofs.Common.{◌≡◌, ◌⊎◌, Result, Ok, Err, IfErr, IfOk, MatchResult, inl, inr, subst}

module _ {E A B : Type 0} (a : Result A E) (b : Result B E) (r : Result (A × B) E) (both : MatchResult r (λ it. (a ≡ Ok it.0) × (b ≡ Ok it.1)) (λ e. (a ≡ Err e) ⊎ (b ≡ Err e))) where
  -- what is said of each error is said of theirs
  pub of_errors : (N : E → Type 0) → IfErr a N → IfErr b N → IfErr r N
  of_errors N first second = by r both
    where
      by : (s : Result (A × B) E) → MatchResult s (λ it. (a ≡ Ok it.0) × (b ≡ Ok it.1)) (λ e. (a ≡ Err e) ⊎ (b ≡ Err e)) → IfErr s N
      by (Ok it) is = tt
      by (Err e) (inl is) = subst (λ (s : Result A E). IfErr s N) is first
      by (Err e) (inr is) = subst (λ (s : Result B E). IfErr s N) is second

  -- and of the values
  pub of_values : (Y : A → Type 0) (Z : B → Type 0) → IfOk a Y → IfOk b Z → IfOk r (λ it. Y it.0 × Z it.1)
  of_values Y Z first second = by r both
    where
      by : (s : Result (A × B) E) → MatchResult s (λ it. (a ≡ Ok it.0) × (b ≡ Ok it.1)) (λ e. (a ≡ Err e) ⊎ (b ≡ Err e)) → IfOk s (λ it. Y it.0 × Z it.1)
      by (Ok it) is = (subst (λ (s : Result A E). IfOk s Y) is.0 first, subst (λ (s : Result B E). IfOk s Z) is.1 second)
      by (Err e) is = tt

pub if_err : {E A : Type 0} (M N : E → Type 0) (r : Result A E) → ((e : E) → M e → N e) → IfErr r M → IfErr r N
if_err M N (Ok x) then holds = tt
if_err M N (Err e) then holds = then e holds

pub of_ok : {E A : Type 0} (Y : A → Type 0) (r : Result A E) (x : A) → r ≡ Ok x → IfOk r Y → Y x
of_ok Y r x is holds = subst (λ (s : Result _ _). IfOk s Y) is holds

pub of_error : {E A : Type 0} (N : E → Type 0) (r : Result A E) (e : E) → r ≡ Err e → IfErr r N → N e
of_error N r e is holds = subst (λ (s : Result _ _). IfErr s N) is holds
