-- Lemmas on images and batches.
use Rattle.std.proofs.Common.{◌≡◌, ◌≢◌, inl, inr, ℕ, zero, suc, ◌+◌, ◌≤◌, ◌<◌, ◌==◌, List, [], ◌∷◌, ◌++◌, length, get_or, take, refl, sym, ◌∙◌, ap, subst, arith, if◌then◌else◌}
use Rattle.std.proofs.lemmas.List.{take_more, map_push, length-map, length-take-le, get_or-map}
use Rattle.std.proofs.lemmas.Bool.{cases_eq}
use Rattle.std.proofs.lemmas.Bool.Decides.{nat_tests}
use Rattle.vol_sector.specs.Disk.{Image, put, Wrote}
use Rattle.vol_log.specs.Batch.{over, logged}
use Rattle.vol_log.specs.internal.Batch.{numbers}
use Rattle.vol_log.specs.internal.Steps.{OnlyImagesChange, Under}
use Rattle.vol_log.specs.Header.{Places}
use Rattle.vol_log.specs.declared.staged.Staged.{Staged}
use Rattle.vol_log.specs.declared.layout.TheConstants.{FIRST_AFTER_LOG}

-- what an index past the end would give
abbrev pub blank : Staged
blank = record { sector = 0; image = [] }

pub put_same : (n : ℕ) (bytes : List ℕ) (m : Image) → put n bytes m n ≡ bytes
put_same n bytes m = grind (arith, nat_tests)

pub put_other : (n k : ℕ) (bytes : List ℕ) (m : Image) → k ≢ n → put n bytes m k ≡ m k
put_other n k bytes m other = grind (arith, nat_tests)

pub at_once : (k : ℕ) (x y : Image) → x ≡ y → x k ≡ y k
at_once k x y same = ap (λ (m : Image). m k) same

-- a write touches only its sector
pub wrote_other : (n k : ℕ) (bytes : List ℕ) (x y : Image) → Wrote n bytes x y → k ≢ n → y k ≡ x k
wrote_other n k bytes x y (inl same) other = at_once k y x same
wrote_other n k bytes x y (inr written) other = at_once k y (put n bytes x) written ∙ put_other n k bytes x other

pub wrote_image : (n : ℕ) (bytes : List ℕ) → 2 ≤ n → n < FIRST_AFTER_LOG → (x y : Image) → Wrote n bytes x y → OnlyImagesChange x y
wrote_image n bytes low high x y wrote k (inl before) = let other : k ≢ n = omega arith in wrote_other n k bytes x y wrote other
wrote_image n bytes low high x y wrote k (inr after_log) = let other : k ≢ n = omega arith in wrote_other n k bytes x y wrote other

pub outside_joins : (x y z : Image) → OnlyImagesChange x y → OnlyImagesChange y z → OnlyImagesChange x z
outside_joins x y z one two k out = two k out ∙ one k out

logged_push : (ns : List ℕ) (n at : ℕ) (m : Image) → logged (ns ++ n ∷ []) at m ≡ logged ns at m ++ (record { sector = n; image = m (at + length ns) }) ∷ []
logged_push [] n at m = let e : at + 0 ≡ at = omega arith in ap (λ (p : ℕ). (record { sector = n; image = m p }) ∷ []) (sym e)
logged_push (k ∷ ns) n at m =
    let e : at + 1 + length ns ≡ at + suc (length ns) = omega arith in
    ap (λ (l : List Staged). (record { sector = k; image = m at }) ∷ l) (logged_push ns n (at + 1) m ∙ ap (λ (p : ℕ). logged ns (at + 1) m ++ (record { sector = n; image = m p }) ∷ []) e)

-- a write after the log's images leaves them
pub logged_put : (ns : List ℕ) (at n : ℕ) (bytes : List ℕ) (m : Image) → at + length ns ≤ n → logged ns at (put n bytes m) ≡ logged ns at m
logged_put [] at n bytes m le = refl
logged_put (k ∷ ns) at n bytes m le =
    let other : at ≢ n = omega arith in
    let here : put n bytes m at ≡ m at = put_other n at bytes m other in
    let rest : logged ns (at + 1) (put n bytes m) ≡ logged ns (at + 1) m = logged_put ns (at + 1) n bytes m (omega arith) in
    (λ i. (record { sector = k; image = here i }) ∷ rest i)

-- one image more in the log
pub logged_more : (batch : List Staged) (i : ℕ) (d : Staged) (m : Image) → i < length batch → logged (numbers (take i batch)) 2 m ≡ take i batch → logged (numbers (take (i + 1) batch)) 2 (put (2 + i) (get_or batch i d).image m) ≡ take (i + 1) batch
logged_more batch i d m lt so_far =
    let s = get_or batch i d in
    let front = take i batch in
    let long : length (numbers front) ≡ i = length-map front (λ (t : Staged). t.sector) ∙ length-take-le i batch (omega arith) in
    let more : take (i + 1) batch ≡ front ++ s ∷ [] = take_more batch i d lt in
    let new = put (2 + i) s.image m in
    let named : numbers (take (i + 1) batch) ≡ numbers front ++ s.sector ∷ [] = ap numbers more ∙ map_push (λ (t : Staged). t.sector) front s in
    let place : 2 + length (numbers front) ≡ 2 + i = omega (arith, long) in
    let image : new (2 + length (numbers front)) ≡ s.image = ap new place ∙ put_same (2 + i) s.image m in
    let old : logged (numbers front) 2 new ≡ front = logged_put (numbers front) 2 (2 + i) s.image m (omega (arith, long)) ∙ so_far in
    ap (λ (ns : List ℕ). logged ns 2 new) named
    ∙ logged_push (numbers front) s.sector 2 new
    ∙ (λ j. old j ++ (record { sector = s.sector; image = image j }) ∷ [])
    ∙ sym more

-- a choice by a test, where only what is not chosen changes
else_same : {X : Type 0} (k n : ℕ) (x y z : X) → (k ≢ n → y ≡ z) → (if k == n then x else y) ≡ (if k == n then x else z)
else_same k n x y z same = elim (cases_eq k n) [
  | inl is ↦ grind (arith, nat_tests)
  | inr other ↦ let e : y ≡ z = same other in grind (arith, nat_tests)
]

-- the batch over two images that agree at a sector
pub over_at : (batch : List Staged) (k : ℕ) (x y : Image) → x k ≡ y k → over batch x k ≡ over batch y k
over_at [] k x y same = same
over_at (s ∷ batch) k x y same = else_same k s.sector s.image (over batch x k) (over batch y k) (λ ne. over_at batch k x y same)

-- a write to a sector of the batch is hidden by it
over_put_at : (batch : List Staged) (i k : ℕ) (bytes : List ℕ) (m : Image) → i < length batch → over batch (put (get_or batch i blank).sector bytes m) k ≡ over batch m k
over_put_at [] i k bytes m lt = absurd (omega arith)
over_put_at (s ∷ batch) zero k bytes m lt = else_same k s.sector s.image (over batch (put s.sector bytes m) k) (over batch m k) (λ ne. over_at batch k (put s.sector bytes m) m (put_other s.sector k bytes m ne))
over_put_at (s ∷ batch) (suc i) k bytes m lt = else_same k s.sector s.image (over batch (put (get_or batch i blank).sector bytes m) k) (over batch m k) (λ ne. over_put_at batch i k bytes m (omega arith))

over_put : (batch : List Staged) (i : ℕ) (bytes : List ℕ) (m : Image) → i < length batch → over batch (put (get_or batch i blank).sector bytes m) ≡ over batch m
over_put batch i bytes m lt = λ j k. over_put_at batch i k bytes m lt j

pub wrote_under : (batch : List Staged) (i : ℕ) → i < length batch → (x y : Image) → Wrote (get_or batch i blank).sector (get_or batch i blank).image x y → Under batch x y
wrote_under batch i lt x y (inl same) = ap (over batch) same
wrote_under batch i lt x y (inr written) = ap (over batch) written ∙ over_put batch i (get_or batch i blank).image x lt

pub under_joins : (batch : List Staged) (x y z : Image) → Under batch x y → Under batch y z → Under batch x z
under_joins batch x y z one two = two ∙ one

-- the first of the batch stand in their places
abbrev pub Placed : List Staged → ℕ → Image → Type 0
Placed batch i m = (j : ℕ) → j < i → m (get_or batch j blank).sector ≡ (get_or batch j blank).image

pub placed_more : (batch : List Staged) (i : ℕ) (x y : Image) (sectors : ℕ) → i < length batch → Places sectors (numbers batch) → y ≡ put (get_or batch i blank).sector (get_or batch i blank).image x → Placed batch i x → Placed batch (i + 1) y
placed_more batch i x y sectors lt places is so_far j lt_j = at_once (get_or batch j blank).sector y (put n bytes x) is ∙ (elim (cases_eq j i) [
  | inl same ↦ subst (λ (q : ℕ). put n bytes x (get_or batch q blank).sector ≡ (get_or batch q blank).image) (sym same) (put_same n bytes x)
  | inr other ↦ let before : j < i = omega arith in put_other n (get_or batch j blank).sector bytes x (apart before) ∙ so_far j before
])
  where
    n : ℕ
    n = (get_or batch i blank).sector

    bytes : List ℕ
    bytes = (get_or batch i blank).image

    apart : j < i → (get_or batch j blank).sector ≢ n
    apart before same =
        let long : length (numbers batch) ≡ length batch = length-map batch (λ (t : Staged). t.sector) in
        places.distinct j i before (omega (arith, long)) (get_or-map (λ (t : Staged). t.sector) batch j blank 0 (omega arith) ∙ same ∙ sym (get_or-map (λ (t : Staged). t.sector) batch i blank 0 lt))

-- a batch whose images stand in their places changes nothing
over_placed_at : (batch : List Staged) (m : Image) (k : ℕ) → Placed batch (length batch) m → over batch m k ≡ m k
over_placed_at [] m k placed = refl
over_placed_at (s ∷ batch) m k placed = elim (cases_eq k s.sector) [
  | inl is ↦ let here : m s.sector ≡ s.image = placed 0 (omega arith) in let e : m k ≡ s.image = ap m is ∙ here in grind (arith, nat_tests)
  | inr other ↦ let rest : over batch m k ≡ m k = over_placed_at batch m k (λ j lt. placed (suc j) (omega arith)) in grind (arith, nat_tests)
]

pub over_placed : (batch : List Staged) (m : Image) → Placed batch (length batch) m → over batch m ≡ m
over_placed batch m placed = λ j k. over_placed_at batch m k placed j

-- places in a volume are places in a greater one
pub places_within : (sectors end : ℕ) (ns : List ℕ) → sectors ≤ end → Places sectors ns → Places end ns
places_within sectors end ns le placed = record {
  few = placed.few;
  after_log = placed.after_log;
  there = λ k lt. omega (arith, le, placed.there k lt);
  distinct = placed.distinct;
}
