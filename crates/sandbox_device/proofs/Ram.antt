-- One operation more on a disk in memory.
use Rattle.std.proofs.Common.{◌≡◌, ◌≢◌, ◌⊎◌, ◌==◌, ◌-◌, ◌≤◌, ◌<◌, if◌then◌else◌, inl, inr, ⊎_elim, ℕ, suc, List, [], ◌∷◌, length, take, get_or, set, refl, sym, ◌∙◌, ap, subst, arith}
use Rattle.std.proofs.lemmas.Bool.{cases_eq}
use Rattle.std.proofs.lemmas.Bool.Decides.{nat_tests}
use Rattle.std.proofs.lemmas.List.{get_or-set_same, get_or-set_other}
use Rattle.vol_sector.specs.Disk.{Image, put, Wrote, After, Leaves, Keeps}
use Rattle.vol_sector.specs.Record.{image_of}
use Rattle.sandbox_device.specs.Ram.{Sectors, IsOneOf, held}

-- what it held since an earlier moment, after one operation more
since_more : (now was : Sectors) (before : List Sectors) (t : ℕ) (c : Image) → t ≤ length before → (held now (was ∷ before)).left_since t c → (c ≡ image_of now) ⊎ (held was before).left_since t c
since_more now was before t c le left =
    let longer : length (was ∷ before) - t ≡ suc (length before - t) = omega arith in
    subst (λ (k : ℕ). IsOneOf (now ∷ take k (was ∷ before)) c) longer left

more_since : (now was : Sectors) (before : List Sectors) (t : ℕ) (c : Image) → t ≤ length before → (held was before).left_since t c → (held now (was ∷ before)).left_since t c
more_since now was before t c le left =
    let longer : length (was ∷ before) - t ≡ suc (length before - t) = omega arith in
    subst (λ (k : ℕ). IsOneOf (now ∷ take k (was ∷ before)) c) (sym longer) (inr left)

-- an operation that writes nothing
pub leaves_held : (now : Sectors) (before : List Sectors) → Leaves (held now before) (held now (now ∷ before)) (λ c. ⊥)
leaves_held now before = record {
  later = omega arith;
  since = λ t c le left. inl (⊎_elim (λ is. inl is) (λ old. old) (since_more now now before t c le left));
  now = λ c is. inl is;
}

pub keeps_held : (now was : Sectors) (before : List Sectors) → Keeps (held was before) (held now (was ∷ before))
keeps_held now was before t c le left = more_since now was before t c le left

-- a write
pub leaves_put : (now was : Sectors) (before : List Sectors) (n : ℕ) (bytes : List ℕ) → image_of now ≡ put n bytes (image_of was) → Leaves (held was before) (held now (was ∷ before)) (After (Wrote n bytes) (held was before).may_leave)
leaves_put now was before n bytes put_is = record {
  later = omega arith;
  since = λ t c le left. ⊎_elim (λ is. inr (image_of was, refl, inr (is ∙ put_is))) (λ old. inl old) (since_more now was before t c le left);
  now = λ c is. inr (image_of was, refl, inr (is ∙ put_is));
}

-- the sectors after one was rewritten
pub put_in : (sectors : List (List ℕ)) (n : ℕ) (bytes : List ℕ) → n < length sectors → image_of (set sectors n bytes) ≡ put n bytes (image_of sectors)
put_in sectors n bytes lt = λ j k. at k j
  where
    hit : (k m : ℕ) (x y : List ℕ) → k ≡ m → (if k == m then x else y) ≡ x
    hit k m x y is = grind (arith, nat_tests)

    miss : (k m : ℕ) (x y : List ℕ) → k ≢ m → (if k == m then x else y) ≡ y
    miss k m x y ne = grind (arith, nat_tests)

    at : (k : ℕ) → image_of (set sectors n bytes) k ≡ put n bytes (image_of sectors) k
    at k = elim (cases_eq k n) [
      | inl is ↦ ap (λ (m : ℕ). get_or (set sectors n bytes) m []) is ∙ get_or-set_same sectors n bytes [] lt ∙ sym (hit k n bytes (get_or sectors k []) is)
      | inr other ↦ get_or-set_other sectors n k bytes [] other ∙ sym (miss k n bytes (get_or sectors k []) other)
    ]
