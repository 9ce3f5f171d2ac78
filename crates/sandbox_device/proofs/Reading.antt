-- Sectors that are read in pieces, each put behind those before it.
use Rattle.std.proofs.Common.{◌≡◌, ◌+◌, ◌-◌, ◌≤◌, ◌<◌, inl, inr, ℕ, List, [], ◌++◌, length, take, drop, get_or, sym, subst, arith}
use Rattle.std.proofs.lemmas.Bool.{cases_lt}
use Rattle.std.proofs.lemmas.Grind.{elements}

module _ (first : ℕ) (old images new : List (List ℕ)) (fit : first + length images ≤ length old) (is : new ≡ take first old ++ images ++ drop (first + length images) old) where
  before : (n : ℕ) → n < first → get_or new n [] ≡ get_or old n []
  before n lt = grind (arith, elements)

  behind : (n : ℕ) → first ≤ n → n < first + length images → get_or new n [] ≡ get_or images (n - first) []
  behind n le lt = grind (arith, elements)

  -- what holds of each that was there, and of each that is put, holds of all of them
  pub put_too : (P : ℕ → List ℕ → Type 0) → ((n : ℕ) → n < first → P n (get_or old n [])) → ((n : ℕ) → n < length images → P (first + n) (get_or images n []))
      → (n : ℕ) → n < first + length images → P n (get_or new n [])
  put_too P so_far more n lt = elim (cases_lt n first) [
    | inl less ↦ subst (λ (bytes : List ℕ). P n bytes) (sym (before n less)) (so_far n less)
    | inr other ↦
        let le : first ≤ n = omega (arith, other) in
        let at : first + (n - first) ≡ n = omega (arith, le) in
        subst (λ (m : ℕ). P m (get_or new n [])) at
        (subst (λ (bytes : List ℕ). P (first + (n - first)) bytes) (sym (behind n le lt)) (more (n - first) (omega (arith, le, lt))))
  ]
