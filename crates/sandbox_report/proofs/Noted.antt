-- What a stream answered, when it is counted.
use Rattle.std.proofs.Common.{◌≡◌, ◌≤◌, ◌⊎◌, inl, ℕ, Bool, true, List, length, take, min, sym, ap, ◌∙◌, subst, arith, Result, Ok, Err, MatchResult}
use Rattle.std.specs.Io.{WritesAtMost}
use Rattle.std.proofs.lemmas.List.{length-take, take-take}
use Rattle.sandbox_report.specs.Counting.{failed_after}

-- its mark says whether it refused
marked : {E : Type 0} (P : ℕ → Type 0) (Q : Type 0) (moved : Result ℕ E) (old new : Bool) → new ≡ failed_after old moved → MatchResult moved P (λ e. Q)
    → MatchResult moved (λ n. P n × (new ≡ old)) (λ e. Q × (new ≡ true))
marked P Q (Ok n) old new mark told = (told, mark)
marked P Q (Err e) old new mark told = (told, mark)

module _ {E S : Type 0} (s t : S) (same : t ≡ s) (r moved : Result ℕ E) (is : r ≡ moved) (old new : Bool) (mark : new ≡ failed_after old moved) where
  pub noted : (gave : ℕ → S → Type 0) (refused : S → Type 0) → MatchResult moved (λ n. gave n s) (λ e. refused s)
      → MatchResult r (λ n. gave n t × (new ≡ old)) (λ e. refused t × (new ≡ true))
  noted gave refused told =
      let there = subst (λ (x : S). MatchResult moved (λ n. gave n x) (λ e. refused x)) (sym same) told in
      subst (λ (x : Result ℕ E). MatchResult x (λ n. gave n t × (new ≡ old)) (λ e. refused t × (new ≡ true))) (sym is)
      (marked (λ n. gave n t) (refused t) moved old new mark there)

-- a writer that is offered a beginning of the bytes takes none of the others
taken : {E : Type 0} (all part : List ℕ) (room : ℕ) → part ≡ take (min (length all) room) all → (P : List ℕ → Type 0) (old new : Bool) (Q R : Type 0) (moved : Result ℕ E) → WritesAtMost moved part
    → MatchResult moved (λ n. P (take n part) × (new ≡ old)) (λ e. Q × (new ≡ true)) → MatchResult moved (λ n. P (take n all) × (new ≡ old)) (λ e. (Q × (new ≡ true)) ⊎ R)
taken all part room is P old new Q R (Ok n) few told =
    let most = min (length all) room in
    let long = ap (λ (xs : List ℕ). length xs) is in
    let same : take n part ≡ take n all = ap (λ (xs : List ℕ). take n xs) is ∙ take-take n most all (omega (arith, few, long, length-take most all)) in
    (subst P same told.0, told.1)
taken all part room is P old new Q R (Err e) few told = inl told

module _ {E S : Type 0} (s t : S) (same : t ≡ s) (r moved : Result ℕ E) (is : r ≡ moved) (old new : Bool) (mark : new ≡ failed_after old moved) (all part : List ℕ) (room : ℕ) (fits : part ≡ take (min (length all) room) all) where
  pub noted_part : (took : List ℕ → S → Type 0) (refused : S → Type 0) (R : Type 0) → WritesAtMost moved part → MatchResult moved (λ n. took (take n part) s) (λ e. refused s)
      → MatchResult r (λ n. took (take n all) t × (new ≡ old)) (λ e. (refused t × (new ≡ true)) ⊎ R)
  noted_part took refused R few told =
      let there = subst (λ (x : S). MatchResult moved (λ n. took (take n part) x) (λ e. refused x)) (sym same) told in
      let whole = taken all part room fits (λ bytes. took bytes t) old new (refused t) R moved few (marked (λ n. took (take n part) t) (refused t) moved old new mark there) in
      subst (λ (x : Result ℕ E). MatchResult x (λ n. took (take n all) t × (new ≡ old)) (λ e. (refused t × (new ≡ true)) ⊎ R)) (sym is) whole
