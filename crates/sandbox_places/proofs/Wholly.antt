-- A stream that is read whole.
use Rattle.std.proofs.Common.{Result, Ok, Err, IfErr, IsErrAnd, ◌≡◌, ◌+◌, ◌-◌, ◌≤◌, ◌++◌, ◌∙◌, ℕ, List, [], ◌∷◌, length, length-append, append-nil, sym, ap, refl, subst, arith}
use Rattle.stream_answers.specs.Pieces.{Gives}

no_bytes : (xs : List ℕ) → length xs ≡ 0 → xs ≡ []
no_bytes [] none = refl
no_bytes (x ∷ xs) none = absurd (omega arith)

-- where none came, what came before is all
pub at_end : {S : Type 0} (gave : S → List ℕ → S → Type 0) (first : S) (before : List ℕ) (then : S) (more all : List ℕ) (last : S) (count : ℕ)
    → length more ≡ count → count ≡ 0 → gave then more last → all ≡ before ++ more → Gives gave first before then
    → (s : S) × Gives gave first all s × gave s [] last
at_end {S} gave first before then more all last count long zero came is was =
    let none : more ≡ [] = no_bytes more (long ∙ zero) in
    let same : all ≡ before = is ∙ (ap (λ (xs : List ℕ). before ++ xs) none ∙ append-nil before) in
    (then, subst (λ (xs : List ℕ). Gives gave first xs then) (sym same) was, subst (λ (xs : List ℕ). gave then xs last) none came)

-- what is left of those that are wanted
pub in_all : (before more all : List ℕ) (left count most : ℕ) → all ≡ before ++ more → length more ≡ count → length before + left ≡ most → count ≤ left
    → length all + (left - count) ≡ most
in_all before more all left count most is long had few = omega (arith, ap length is, length-append before more)

-- an error that is passed on
pub passed : {X E : Type 0} (N : E → Type 0) (r : Result X E) (e : E) → IsErrAnd r (λ f. f ≡ e) → N e → IfErr r N
passed N (Ok x) e is holds = tt
passed N (Err f) e is holds = subst N (sym is) holds
