-- A walk up of as many steps as there are slots finds every entry above.
use Rattle.std.proofs.Common.{is_some, ◌≡◌, ℕ, zero, suc, ◌+◌, ◌<◌, ◌≤◌, Bool, true, false, ◌||◌, List, [], ◌∷◌, length, Option, Some, None, refl, sym, ◌∙◌, ap, subst, inl, inr, arith, eqb}
use Rattle.std.specs.Option.{option_map_or}
use Rattle.std.specs.List.{list_any, IsDistinct, AllByRecursion}
use Rattle.std.proofs.lemmas.Bool.{or_cases, eq-eqb, eqb-true, ne_eqb, false≢true}
use Rattle.std.proofs.lemmas.Map.Steps.{length-le_from_distinct_below}
use Rattle.vol_tree.specs.Tree.{Tree, Path, Entry, entry, Leads, IsTree}
use Rattle.vol_tree.specs.Calls.{is_within}
use Rattle.vol_tree.specs.Laws.{WithinIsBelow}
use Rattle.vol_tree.proofs.Entries.{used_within, no_cycle}

within_from : (T : Tree) (top n : ℕ) (path : Path) (s : ℕ) → Leads T top path s → length path ≤ n → is_within n T top s ≡ true
within_from T top zero [] s h l = eq-eqb s top h
within_from T top zero (x ∷ path) s h l = absurd (omega arith)
within_from T top (suc n) [] s h l = or_left_true (eqb s top) _ (eq-eqb s top h)
  where
    or_left_true : (a b : Bool) → a ≡ true → (a || b) ≡ true
    or_left_true true b e = refl
    or_left_true false b e = absurd (false≢true e)
within_from T top (suc n) (x ∷ path) s h l =
    or_right_true (eqb s top) _ (ap (λ (o : Option Entry). option_map_or (λ (e : Entry). is_within n T top e.parent) o false) h.1 ∙ within_from T top n path h.0.parent h.3 (omega arith))
  where
    or_right_true : (a b : Bool) → b ≡ true → (a || b) ≡ true
    or_right_true true b e = refl
    or_right_true false b e = e

leads_from : (T : Tree) (top n : ℕ) (s : ℕ) → is_within n T top s ≡ true → (path : Path) × Leads T top path s
leads_from T top zero s h = ([], eqb-true s top h)
leads_from T top (suc n) s h = elim (or_cases (eqb s top) _ h) [
  | inl here ↦ ([], eqb-true s top here)
  | inr above ↦ go (λ d. leads_from T top n d) (entry T s) refl above
]
  where
    go : ((d : ℕ) → is_within n T top d ≡ true → (path : Path) × Leads T top path d) → (o : Option Entry) → entry T s ≡ o → option_map_or (λ (e : Entry). is_within n T top e.parent) o false ≡ true → (path : Path) × Leads T top path s
    go on None e b = absurd (false≢true b)
    go on (Some d) e b = let above = on d.parent b in (d.name ∷ above.0, (d, e, refl, above.1))

parent_of : Tree → ℕ → ℕ
parent_of T s = option_map_or (λ (e : Entry). e.parent) (entry T s) 0

-- the serials on a path, from the lowest up
abbrev serials : Tree → Path → ℕ → List ℕ
serials T [] s = s ∷ []
serials T (n ∷ path) s = s ∷ serials T path (option_map_or (λ (e : Entry). e.parent) (entry T s) 0)

module _ (T : Tree) (t : IsTree T) (top : ℕ) (used : is_some (entry T top) ≡ true) where
  up : (s : ℕ) (e : Entry) → entry T s ≡ Some e → e.parent ≡ option_map_or (λ (e : Entry). e.parent) (entry T s) 0
  up s e h = sym (ap (λ (o : Option Entry). option_map_or (λ (e : Entry). e.parent) o 0) h)

  on_up : (n : List ℕ) (path : Path) (s : ℕ) (h : Leads T top (n ∷ path) s) → Leads T top path (option_map_or (λ (e : Entry). e.parent) (entry T s) 0)
  on_up n path s h = subst (λ (x : ℕ). Leads T top path x) (up s h.0 h.1) h.3

  apart_from : (s : ℕ) (path : Path) (y : ℕ) → Leads T top path y → ((q : Path) → Leads T s q y → ⊥) → AllByRecursion (λ x. eqb s x ≡ false) (serials T path y)
  apart_from s [] y h never = (ne_eqb s y (λ same. never [] (sym same)), tt)
  apart_from s (n ∷ path) y h never = (
    ne_eqb s y (λ same. never [] (sym same)),
    apart_from s path _ (on_up n path y h) (λ q l. never (h.0.name ∷ q) (h.0, h.1, refl, subst (λ (x : ℕ). Leads T s q x) (sym (up y h.0 h.1)) l)),
  )

  distinct : (path : Path) (y : ℕ) → Leads T top path y → IsDistinct eqb (serials T path y)
  unfolding IsDistinct
  distinct [] y h = (tt, tt)
  distinct (n ∷ path) y h = (
    apart_from y path _ (on_up n path y h) (λ q l. no_cycle T t h.0.name q y (h.0, h.1, refl, subst (λ (x : ℕ). Leads T y q x) (sym (up y h.0 h.1)) l)),
    distinct path _ (on_up n path y h),
  )

  within_slots : (s : ℕ) → is_some (entry T s) ≡ true → s < length T + 1
  within_slots zero u = omega arith
  within_slots (suc slot) u = go (entry T (suc slot)) refl u
    where
      go : (o : Option Entry) → entry T (suc slot) ≡ o → is_some o ≡ true → suc slot < length T + 1
      go None e u = absurd (false≢true u)
      go (Some d) e u = omega (arith, used_within T slot d e)

  low : (path : Path) (y : ℕ) → Leads T top path y → (q : ℕ) → list_any (eqb q) (serials T path y) ≡ true → q < length T + 1
  low [] y h q a = elim (or_cases (eqb q y) false a) [
    | inl here ↦ subst (λ (x : ℕ). x < length T + 1) (sym (eqb-true q y here ∙ h)) (within_slots top used)
    | inr none ↦ absurd (false≢true none)
  ]
  low (n ∷ path) y h q a = elim (or_cases (eqb q y) _ a) [
    | inl here ↦ subst (λ (x : ℕ). x < length T + 1) (sym (eqb-true q y here)) (within_slots y (ap is_some h.1))
    | inr above ↦ low path _ (on_up n path y h) q above
  ]

  long : (path : Path) (y : ℕ) → length (serials T path y) ≡ suc (length path)
  long [] y = refl
  long (n ∷ path) y = ap suc (long path _)

  short : (path : Path) (y : ℕ) → Leads T top path y → length path ≤ length T
  short path y h =
      let most = length-le_from_distinct_below (serials T path y) (length T + 1) (distinct path y h) (low path y h) in
      omega (arith, most, long path y)

pub within_below : WithinIsBelow
within_below T top s t used = (leads_from T top (length T) s, λ path h. within_from T top (length T) path s h (short T t top used path s h))
