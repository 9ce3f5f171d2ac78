-- The numbers that all files name, one file after another.
use Rattle.std.proofs.Common.{inl, inr, ◌≡◌, ◌+◌, ◌-◌, ◌≤◌, ◌<◌, ℕ, zero, suc, List, [], ◌∷◌, ◌++◌, length, take, drop, get_or, refl, sym, ◌∙◌, ap, subst, arith}
use Rattle.std.specs.List.{flat_map, Contains}
use Rattle.std.proofs.lemmas.Bool.{cases_lt}
use Rattle.std.proofs.lemmas.List.{length-append, get_or_append_left, get_or-append_right, get_or_default, take-append-drop}
use Rattle.std.proofs.lemmas.List.Elements.{Contains-append_left, Contains-append_right, Contains-append_cases}
use Rattle.std.proofs.lemmas.Grind.{flat_map-append}
use Rattle.vol_alloc.specs.Numbers.{AreDistinct}
use Rattle.vol_body.specs.Survey.{AreInside}
use Rattle.vol_body.proofs.Repeats.{few_in_range}
use Rattle.vol_body.proofs.Surveyed.{not_in_both}
use Rattle.vol_body.proofs.SurveyExits.{inside_left}

pub distinct_left : (xs ys : List ℕ) → AreDistinct (xs ++ ys) → AreDistinct xs
distinct_left xs ys distinct j k lt below same =
    distinct j k lt (omega (arith, below, length-append xs ys)) (get_or_append_left xs ys 0 j (omega (arith, lt, below)) ∙ same ∙ sym (get_or_append_left xs ys 0 k below))

pub distinct_right : (xs ys : List ℕ) → AreDistinct (xs ++ ys) → AreDistinct ys
distinct_right xs ys distinct j k lt below same =
    let at : (i : ℕ) → i < length ys → get_or (xs ++ ys) (length xs + i) 0 ≡ get_or ys i 0 = λ i l.
    let place : length xs + i - length xs ≡ i = omega arith in
    get_or-append_right xs ys (length xs) (length xs + i) 0 refl (omega arith) ∙ ap (λ (m : ℕ). get_or ys m 0) place in
    distinct (length xs + j) (length xs + k) (omega (arith, lt)) (omega (arith, below, length-append xs ys)) (at j (omega (arith, lt, below)) ∙ same ∙ sym (at k below))

pub distinct_both : (xs ys : List ℕ) → AreDistinct xs → AreDistinct ys → ((n : ℕ) → Contains xs n → Contains ys n → ⊥) → AreDistinct (xs ++ ys)
distinct_both xs ys one two apart j k lt below same =
    let long = length-append xs ys in
    let left : (i : ℕ) → i < length xs → get_or (xs ++ ys) i 0 ≡ get_or xs i 0 = λ i l. get_or_append_left xs ys 0 i l in
    let right : (i : ℕ) → length xs ≤ i → get_or (xs ++ ys) i 0 ≡ get_or ys (i - length xs) 0 = λ i le. get_or-append_right xs ys (length xs) i 0 refl le in
    elim (cases_lt k (length xs)) [
      | inl k_left ↦ one j k lt k_left (sym (left j (omega (arith, lt, k_left))) ∙ same ∙ left k k_left)
      | inr k_right ↦ elim (cases_lt j (length xs)) [
        | inl j_left ↦
            let n = get_or xs j 0 in
            let there : k - length xs < length ys = omega (arith, below, long, k_right) in
            apart n (j, j_left, get_or_default xs j n 0 j_left) (k - length xs, there, get_or_default ys (k - length xs) n 0 there ∙ sym (right k k_right) ∙ sym same ∙ left j j_left)
        | inr j_right ↦ two (j - length xs) (k - length xs) (omega (arith, lt, j_right)) (omega (arith, below, long, k_right)) (sym (right j j_right) ∙ same ∙ right k k_right)
      ]
    ]

module _ {X : Type 0} (f : X → List ℕ) (d : X) where
  -- what one of them names, all name
  pub in_flat : (xs : List X) (s n : ℕ) → s < length xs → Contains (f (get_or xs s d)) n → Contains (flat_map f xs) n
  in_flat [] s n lt has = absurd (omega (arith, lt))
  in_flat (x ∷ xs) zero n lt has = Contains-append_left (f x) (flat_map f xs) n has
  in_flat (x ∷ xs) (suc s) n lt has = Contains-append_right (f x) (flat_map f xs) n (in_flat xs s n (omega (arith, lt)) has)

  pub from_flat : (xs : List X) (n : ℕ) → Contains (flat_map f xs) n → (s : ℕ) × (s < length xs) × Contains (f (get_or xs s d)) n
  from_flat [] n has = absurd (omega (arith, has.1))
  from_flat (x ∷ xs) n has = elim (Contains-append_cases (f x) (flat_map f xs) n has) [
    | inl here ↦ (zero, omega arith, here)
    | inr later ↦ let at = from_flat xs n later in (suc at.0, omega (arith, at.1), at.2)
  ]

  -- all together have no number twice
  pub one_distinct : (xs : List X) → AreDistinct (flat_map f xs) → (s : ℕ) → s < length xs → AreDistinct (f (get_or xs s d))
  one_distinct [] distinct s lt = absurd (omega (arith, lt))
  one_distinct (x ∷ xs) distinct zero lt = distinct_left (f x) (flat_map f xs) distinct
  one_distinct (x ∷ xs) distinct (suc s) lt = one_distinct xs (distinct_right (f x) (flat_map f xs) distinct) s (omega (arith, lt))

  before_after : (xs : List X) → AreDistinct (flat_map f xs) → (s t n : ℕ) → s < t → t < length xs → Contains (f (get_or xs s d)) n → Contains (f (get_or xs t d)) n → ⊥
  before_after [] distinct s t n lt below one other = omega (arith, below)
  before_after (x ∷ xs) distinct s zero n lt below one other = omega (arith, lt)
  before_after (x ∷ xs) distinct zero (suc t) n lt below one other = not_in_both (f x) (flat_map f xs) n distinct one (in_flat xs t n (omega (arith, below)) other)
  before_after (x ∷ xs) distinct (suc s) (suc t) n lt below one other = before_after xs (distinct_right (f x) (flat_map f xs) distinct) s t n (omega (arith, lt)) (omega (arith, below)) one other

  pub apart_in : (xs : List X) → AreDistinct (flat_map f xs) → (s t n : ℕ) → s < length xs → t < length xs → Contains (f (get_or xs s d)) n → Contains (f (get_or xs t d)) n → s ≡ t
  apart_in xs distinct s t n s_in t_in one other = elim (cases_lt s t) [
    | inl less ↦ absurd (before_after xs distinct s t n less t_in one other)
    | inr le ↦ elim (cases_lt t s) [
      | inl more ↦ absurd (before_after xs distinct t s n more s_in other one)
      | inr ge ↦ omega (arith, le, ge)
    ]
  ]

  pub all_distinct : (xs : List X) → ((s : ℕ) → s < length xs → AreDistinct (f (get_or xs s d)))
      → ((s t n : ℕ) → s < length xs → t < length xs → Contains (f (get_or xs s d)) n → Contains (f (get_or xs t d)) n → s ≡ t) → AreDistinct (flat_map f xs)
  all_distinct [] each apart j k lt below = absurd (omega (arith, below, lt))
  all_distinct (x ∷ xs) each apart j k lt below = distinct_both (f x) (flat_map f xs) (each zero (omega arith))
      (all_distinct xs (λ s l. each (suc s) (omega (arith, l))) (λ s t n a b one other. let same = apart (suc s) (suc t) n (omega (arith, a)) (omega (arith, b)) one other in omega (arith, same)))
      (λ n one other. let at = from_flat xs n other in let same = apart zero (suc at.0) n (omega arith) (omega (arith, at.1)) one at.2 in omega (arith, same))
      j k lt below

  -- so do the first of them
  pub inside_so_far : (first end : ℕ) (xs : List X) (k : ℕ) → AreDistinct (flat_map f xs) → ((n : ℕ) → Contains (flat_map f xs) n → (first ≤ n) × (n < end)) → AreInside first end (flat_map f (take k xs))
  inside_so_far first end xs k distinct inside =
      let whole : flat_map f (take k xs) ++ flat_map f (drop k xs) ≡ flat_map f xs = sym (flat_map-append f (take k xs) (drop k xs)) ∙ ap (flat_map f) (take-append-drop k xs) in
      inside_left first end (flat_map f (take k xs)) (flat_map f (drop k xs)) (subst (AreInside first end) (sym whole) (record { inside = inside; few = few_in_range first end (flat_map f xs) distinct inside }))
