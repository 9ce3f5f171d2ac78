-- Lists in which no item comes twice, and what an item more or less does to any list.
use Rattle.std.proofs.Common.{◌≡◌, ◌≢◌, ◌⊎◌, inl, inr, ℕ, zero, suc, ◌+◌, ◌<◌, List, [], ◌∷◌, ◌++◌, length, get_or, refl, sym, ◌∙◌, ap, arith}
use Rattle.std.specs.List.{Contains, swap}
use Rattle.std.specs.List.Sorted.{IsPermutation}
use Rattle.std.proofs.lemmas.Bool.{cases_eq}
use Rattle.std.proofs.lemmas.List.{get_or_default, get_or_append_left, get_or-append-add, length-append}
use Rattle.std.proofs.lemmas.List.Edits.{length-swap, swapped_from_swap, Swapped}
use Rattle.std.proofs.lemmas.List.Elements.{Contains-append_left, Contains-append_right, Contains-append_cases, Contains-push, Contains-push_cases}
use Rattle.std.proofs.lemmas.List.Sorted.{IsPermutation-keeps, IsPermutation-sym, Contains-permutation}
use Rattle.vol_dirs.specs.internal.Rising.{AreApart, AddsItem, Drops}

-- the items of a list with one in front
in_front : {X : Type 0} (x y : X) (xs : List X) → Contains (x ∷ xs) y → Contains xs y ⊎ (x ≡ y)
in_front x y xs has = elim (Contains-append_cases (x ∷ []) xs y has) [
  | inl first ↦ elim (Contains-push_cases [] x y first) [
    | inl none ↦ absurd (omega (arith, none.1))
    | inr same ↦ inr same
  ]
  | inr rest ↦ inl rest
]

pub adds_by : {X : Type 0} (xs ys : List X) (x : X) → IsPermutation (x ∷ xs) ys → AddsItem xs ys x
adds_by xs ys x moved = record {
  kept = λ y has. Contains-permutation (x ∷ xs) ys y moved (Contains-append_right (x ∷ []) xs y has);
  there = Contains-permutation (x ∷ xs) ys x moved (Contains-append_left (x ∷ []) xs x (Contains-push [] x));
  only = λ y has. in_front x y xs (Contains-permutation ys (x ∷ xs) y (IsPermutation-sym (x ∷ xs) ys moved) has);
}

pub drops_by : {X : Type 0} (xs ys : List X) (x : X) → IsPermutation xs (x ∷ ys) → (Contains ys x → ⊥) → Drops xs ys x
drops_by xs ys x moved gone = record {
  kept = λ y has. in_front x y ys (Contains-permutation xs (x ∷ ys) y moved has);
  gone = gone;
  only = λ y has. Contains-permutation (x ∷ ys) xs y (IsPermutation-sym xs (x ∷ ys) moved) (Contains-append_right (x ∷ []) ys y has);
}

-- a new item stands apart from the others
pub front_apart : {X : Type 0} (xs : List X) (x : X) → AreApart xs → (Contains xs x → ⊥) → AreApart (x ∷ xs)
front_apart xs x apart new zero zero d lt there same = omega arith
front_apart xs x apart new zero (suc j) d lt there same = new (j, omega arith, get_or_default xs j x d (omega arith) ∙ sym same)
front_apart xs x apart new (suc i) zero d lt there same = omega arith
front_apart xs x apart new (suc i) (suc j) d lt there same = apart i j d (omega arith) (omega arith) same

pub rest_apart : {X : Type 0} (xs : List X) (x : X) → AreApart (x ∷ xs) → AreApart xs
rest_apart xs x apart i j d lt there same = apart (suc i) (suc j) d (omega arith) (omega arith) same

pub not_again : {X : Type 0} (xs : List X) (x : X) → AreApart (x ∷ xs) → Contains xs x → ⊥
not_again xs x apart has = apart 0 (suc has.0) x (omega arith) (omega (arith, has.1)) (sym has.2)

-- an item of one part isn't in the other
pub not_in_both : {X : Type 0} (xs ys : List X) (x : X) → AreApart (xs ++ ys) → Contains xs x → Contains ys x → ⊥
not_in_both xs ys x apart one other =
    let first = get_or_append_left xs ys x one.0 one.1 ∙ one.2 in
    let second = get_or-append-add xs ys other.0 x ∙ other.2 in
    apart one.0 (length xs + other.0) x (omega (arith, one.1)) (omega (arith, other.1, length-append xs ys)) (first ∙ sym second)

-- ---- moving items keeps them apart

same_place : {X : Type 0} (xs : List X) → AreApart xs → (i j : ℕ) (d : X) → i < length xs → j < length xs → get_or xs i d ≡ get_or xs j d → i ≡ j
same_place xs apart i j d first second same =
    let not_before : i < j → ⊥ = λ lt. apart i j d lt second same in
    let not_after : j < i → ⊥ = λ lt. apart j i d lt first (sym same) in
    omega arith

-- a swap of a and b takes the item at k from this place
abbrev ComesFrom : ℕ → ℕ → ℕ → ℕ → Type 0
ComesFrom a b k place = ((k ≡ a) × (place ≡ b)) ⊎ (((k ≡ b) × (place ≡ a)) ⊎ ((k ≢ a) × (k ≢ b) × (place ≡ k)))

origin : {X : Type 0} (old new : ℕ → X) (a b k : ℕ) → Swapped old new a b → (place : ℕ) × ComesFrom a b k place × (new k ≡ old place)
origin old new a b k swapped = elim (cases_eq k a) [
  | inl first ↦ (b, inl (first, refl), ap new first ∙ swapped.0)
  | inr not_first ↦ elim (cases_eq k b) [
    | inl second ↦ (a, inr (inl (second, refl)), ap new second ∙ swapped.1)
    | inr not_second ↦ (k, inr (inr (not_first, not_second, refl)), swapped.2 k not_first not_second)
  ]
]

swap_apart : {X : Type 0} (xs : List X) (a b : ℕ) → a < length xs → b < length xs → AreApart xs → AreApart (swap xs a b)
swap_apart xs a b first second apart i j d lt there same =
    let long = length-swap xs a b in
    let swapped = swapped_from_swap xs (swap xs a b) a b d first second refl in
    let one = origin _ _ a b i swapped in
    let other = origin _ _ a b j swapped in
    let places = same_place xs apart one.0 other.0 d (omega (arith, one.1, long)) (omega (arith, other.1, long)) (sym one.2 ∙ same ∙ other.2) in
    omega (arith, one.1, other.1, places)

pub moved_apart : {X : Type 0} (xs ys : List X) → IsPermutation xs ys → AreApart xs → AreApart ys
moved_apart xs ys moved apart = IsPermutation-keeps xs AreApart apart (λ l i j first second are. swap_apart l i j first second are) ys moved
