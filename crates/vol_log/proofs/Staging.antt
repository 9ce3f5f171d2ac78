-- Lemmas on a batch that one more sector joins.
use Rattle.std.proofs.Common.{◌≡◌, ◌≢◌, inl, inr, ℕ, zero, suc, ◌≤◌, ◌<◌, ◌==◌, if◌then◌else◌, Bool, true, false, List, [], ◌∷◌, ◌++◌, length, get_or, set, refl, sym, ◌∙◌, ap, subst, arith}
use Rattle.std.proofs.lemmas.List.{map-set, set-get_or, get_or-map, map_push, length-map}
use Rattle.std.proofs.lemmas.Bool.{cases_eq}
use Rattle.std.proofs.lemmas.Bool.Decides.{nat_tests}
use Rattle.vol_sector.specs.Disk.{Image, put}
use Rattle.vol_log.specs.Header.{Places}
use Rattle.vol_log.specs.Batch.{over, holds}
use Rattle.vol_log.specs.internal.Batch.{numbers}
use Rattle.vol_log.specs.declared.staged.Staged.{Staged}
use Rattle.vol_log.specs.internal.Index.{Index, place_at, IsIndex}
use Rattle.vol_log.specs.internal.Index.{IsEntryOfNumber, IsGapFor}
use Rattle.vol_log.proofs.Images.{blank}
use Rattle.vol_log.proofs.Parse.{places_more}
use Rattle.vol_log.proofs.Finding.{place_inside, place_is, only_place, in_no_place}
use Rattle.vol_log.specs.declared.layout.TheConstants.{FIRST_AFTER_LOG}

sector_is : (batch : List Staged) (p : ℕ) → p < length batch → (get_or batch p blank).sector ≡ get_or (numbers batch) p 0
sector_is batch p lt = sym (get_or-map (λ (t : Staged). t.sector) batch p blank 0 lt)

-- the first place of the batch with this number
pub record IsPlaceOf (batch : List Staged) (n p : ℕ) : Type 0 where
  pub inside : p < length batch
  pub here : (get_or batch p blank).sector ≡ n
  pub before : (j : ℕ) → j < p → (get_or batch j blank).sector ≢ n

-- what a search of the index finds
pub found_place : (batch : List Staged) (index : Index) → IsIndex (numbers batch) index → (n at : ℕ) → IsEntryOfNumber index n at → (p : ℕ) → p ≡ place_at index at → IsPlaceOf batch n p
found_place batch index is n at found p place =
    let long : length (numbers batch) ≡ length batch = length-map batch (λ (t : Staged). t.sector) in
    let inside : p < length batch = omega (arith, place_inside (numbers batch) index is n at found, long, place) in
    record {
      inside = inside;
      here = sector_is batch p inside ∙ ap (λ (q : ℕ). get_or (numbers batch) q 0) place ∙ place_is (numbers batch) index is n at found;
      before = λ j lt same.
          let there : j ≡ place_at index at = only_place (numbers batch) index is n at found j (omega (arith, long, inside)) (sym (sector_is batch j (omega (arith, inside))) ∙ same) in
          omega (arith, there, place);
    }

-- and one that doesn't find it
pub none_at_all : (batch : List Staged) (index : Index) → IsIndex (numbers batch) index → (n at : ℕ) → IsGapFor index n at → (j : ℕ) → j < length batch → (get_or batch j blank).sector ≢ n
none_at_all batch index is n at gap j lt same =
    let long : length (numbers batch) ≡ length batch = length-map batch (λ (t : Staged). t.sector) in
    in_no_place (numbers batch) index is n at gap j (omega (arith, long)) (sym (sector_is batch j lt) ∙ same)

-- the first sector of this number is what reads give
pub over_first : (batch : List Staged) (p n : ℕ) (m : Image) → p < length batch → (get_or batch p blank).sector ≡ n → ((j : ℕ) → j < p → (get_or batch j blank).sector ≢ n) → over batch m n ≡ (get_or batch p blank).image
over_first [] p n m lt is before = absurd (omega arith)
over_first (s ∷ batch) zero n m lt is before = grind (arith, nat_tests)
over_first (s ∷ batch) (suc p) n m lt is before =
    let rest : over batch m n ≡ (get_or batch p blank).image = over_first batch p n m (omega arith) is (λ j l. before (suc j) (omega arith)) in
    let other : s.sector ≢ n = before 0 (omega arith) in
    grind (arith, nat_tests)

-- where there is none, reads give the image's
pub over_none : (batch : List Staged) (n : ℕ) (m : Image) → ((j : ℕ) → j < length batch → (get_or batch j blank).sector ≢ n) → over batch m n ≡ m n
over_none [] n m none = refl
over_none (s ∷ batch) n m none =
    let rest : over batch m n ≡ m n = over_none batch n m (λ j lt. none (suc j) (omega arith)) in
    let other : s.sector ≢ n = none 0 (omega arith) in
    grind (arith, nat_tests)

-- two tests, of which the second is for the same number, or the tests are for two numbers
same_test : (k a b : ℕ) (x y z : List ℕ) → a ≡ b → (if k == b then x else z) ≡ (if k == b then x else (if k == a then y else z))
same_test k a b x y z same = elim (cases_eq k b) [
  | inl is ↦ grind (arith, nat_tests)
  | inr other ↦ grind (arith, nat_tests)
]

swap_tests : (k a b : ℕ) (x y z : List ℕ) → a ≢ b → (if k == a then y else (if k == b then x else z)) ≡ (if k == b then x else (if k == a then y else z))
swap_tests k a b x y z ne = elim (cases_eq k b) [
  | inl is ↦ elim (cases_eq k a) [ inl too ↦ absurd (ne (sym too ∙ is)) | inr other ↦ grind (arith, nat_tests) ]
  | inr other ↦ elim (cases_eq k a) [ inl too ↦ grind (arith, nat_tests) | inr apart ↦ grind (arith, nat_tests) ]
]

over_set_at : (batch : List Staged) (i : ℕ) (new : Staged) (m : Image) (k : ℕ) → i < length batch → (get_or batch i blank).sector ≡ new.sector → ((j : ℕ) → j < i → (get_or batch j blank).sector ≢ new.sector) → over (set batch i new) m k ≡ put new.sector new.image (over batch m) k
over_set_at [] i new m k lt is before = absurd (omega arith)
over_set_at (s ∷ batch) zero new m k lt is before = same_test k s.sector new.sector new.image s.image (over batch m k) is
over_set_at (s ∷ batch) (suc i) new m k lt is before =
    let rest = over_set_at batch i new m k (omega arith) is (λ j l. before (suc j) (omega arith)) in
    ap (λ (x : List ℕ). if k == s.sector then s.image else x) rest ∙ swap_tests k s.sector new.sector new.image s.image (over batch m k) (before 0 (omega arith))

pub over_set : (batch : List Staged) (i : ℕ) (new : Staged) (m : Image) → i < length batch → (get_or batch i blank).sector ≡ new.sector → ((j : ℕ) → j < i → (get_or batch j blank).sector ≢ new.sector) → over (set batch i new) m ≡ put new.sector new.image (over batch m)
over_set batch i new m lt is before = λ j k. over_set_at batch i new m k lt is before j

over_push_at : (batch : List Staged) (new : Staged) (m : Image) (k : ℕ) → ((j : ℕ) → j < length batch → (get_or batch j blank).sector ≢ new.sector) → over (batch ++ new ∷ []) m k ≡ put new.sector new.image (over batch m) k
over_push_at [] new m k before = refl
over_push_at (s ∷ batch) new m k before =
    let rest = over_push_at batch new m k (λ j l. before (suc j) (omega arith)) in
    ap (λ (x : List ℕ). if k == s.sector then s.image else x) rest ∙ swap_tests k s.sector new.sector new.image s.image (over batch m k) (before 0 (omega arith))

pub over_push : (batch : List Staged) (new : Staged) (m : Image) → ((j : ℕ) → j < length batch → (get_or batch j blank).sector ≢ new.sector) → over (batch ++ new ∷ []) m ≡ put new.sector new.image (over batch m)
over_push batch new m before = λ j k. over_push_at batch new m k before j

pub numbers_replaced : (batch : List Staged) (i : ℕ) (new : Staged) → i < length batch → (get_or batch i blank).sector ≡ new.sector → numbers (set batch i new) ≡ numbers batch
numbers_replaced batch i new lt is =
    map-set (λ (t : Staged). t.sector) batch i new
    ∙ ap (λ (n : ℕ). set (numbers batch) i n) (sym is ∙ sym (get_or-map (λ (t : Staged). t.sector) batch i blank 0 lt))
    ∙ set-get_or (numbers batch) i 0

pub places_push : (s : ℕ) (batch : List Staged) (new : Staged) → Places s (numbers batch) → length batch < 120 → FIRST_AFTER_LOG ≤ new.sector → new.sector < s → ((j : ℕ) → j < length batch → (get_or batch j blank).sector ≢ new.sector) → Places s (numbers (batch ++ new ∷ []))
places_push s batch new places short after_log there before =
    let long : length (numbers batch) ≡ length batch = length-map batch (λ (t : Staged). t.sector) in
    subst (Places s) (sym (map_push (λ (t : Staged). t.sector) batch new))
    (places_more s (numbers batch) new.sector places (omega (arith, long)) after_log there
    (λ k lt is. let l : k < length batch = omega (arith, long) in before k l (sym (get_or-map (λ (t : Staged). t.sector) batch k blank 0 l) ∙ is)))

either_test : (k a : ℕ) (rest : Bool) → rest ≡ true → (if k == a then true else rest) ≡ true
either_test k a rest is = elim (cases_eq k a) [
  | inl same ↦ grind (arith, nat_tests)
  | inr other ↦ grind (arith, nat_tests)
]

one_test : (k a : ℕ) (rest : Bool) → k ≡ a → (if k == a then true else rest) ≡ true
one_test k a rest is = grind (arith, nat_tests)

no_test : (k a : ℕ) (rest : Bool) → k ≢ a → (if k == a then true else rest) ≡ rest
no_test k a rest other = grind (arith, nat_tests)

swap_either : (k a b : ℕ) (rest : Bool) → (if k == a then true else (if k == b then true else rest)) ≡ (if k == b then true else (if k == a then true else rest))
swap_either k a b rest = elim (cases_eq k a) [
  | inl same ↦ one_test k a (if k == b then true else rest) same ∙ sym (either_test k b (if k == a then true else rest) (one_test k a rest same))
  | inr other ↦ no_test k a (if k == b then true else rest) other ∙ ap (λ (x : Bool). if k == b then true else x) (sym (no_test k a rest other))
]

-- a sector of the batch is in it
pub holds_at : (batch : List Staged) (i n : ℕ) → i < length batch → (get_or batch i blank).sector ≡ n → holds batch n ≡ true
holds_at [] i n lt is = absurd (omega arith)
holds_at (s ∷ batch) zero n lt is = one_test n s.sector (holds batch n) (sym is)
holds_at (s ∷ batch) (suc i) n lt is = either_test n s.sector (holds batch n) (holds_at batch i n (omega arith) is)

-- and no other is
pub holds_none : (batch : List Staged) (n : ℕ) → ((j : ℕ) → j < length batch → (get_or batch j blank).sector ≢ n) → holds batch n ≡ false
holds_none [] n before = refl
holds_none (s ∷ batch) n before =
    no_test n s.sector (holds batch n) (λ is. before 0 (omega arith) (sym is)) ∙ holds_none batch n (λ j lt. before (suc j) (omega arith))

holds_replaced : (batch : List Staged) (i : ℕ) (new : Staged) (k : ℕ) → i < length batch → (get_or batch i blank).sector ≡ new.sector → holds (set batch i new) k ≡ holds batch k
holds_replaced [] i new k lt is = absurd (omega arith)
holds_replaced (s ∷ batch) zero new k lt is = ap (λ (a : ℕ). if k == a then true else holds batch k) (sym is)
holds_replaced (s ∷ batch) (suc i) new k lt is = ap (λ (x : Bool). if k == s.sector then true else x) (holds_replaced batch i new k (omega arith) is)

pub holds_set : (batch : List Staged) (i : ℕ) (new : Staged) (k : ℕ) → i < length batch → (get_or batch i blank).sector ≡ new.sector → holds (set batch i new) k ≡ (if k == new.sector then true else holds batch k)
holds_set batch i new k lt is = holds_replaced batch i new k lt is ∙ elim (cases_eq k new.sector) [
  | inl same ↦ holds_at batch i k lt (is ∙ sym same) ∙ sym (one_test k new.sector (holds batch k) same)
  | inr other ↦ sym (no_test k new.sector (holds batch k) other)
]

pub holds_push : (batch : List Staged) (new : Staged) (k : ℕ) → holds (batch ++ new ∷ []) k ≡ (if k == new.sector then true else holds batch k)
holds_push [] new k = refl
holds_push (s ∷ batch) new k = ap (λ (x : Bool). if k == s.sector then true else x) (holds_push batch new k) ∙ swap_either k s.sector new.sector (holds batch k)
