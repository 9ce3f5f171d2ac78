-- What a crash leaves in each step of a commit.
use Rattle.std.proofs.Common.{◌≡◌, ◌≢◌, inl, inr, ⊎_elim, ℕ, suc, ◌+◌, ◌≤◌, ◌<◌, List, [], ◌∷◌, length, get_or, refl, sym, ◌∙◌, ap, subst, arith, ◌==◌, if◌then◌else◌}
use Rattle.std.proofs.lemmas.Bool.Decides.{nat_tests}
use Rattle.std.proofs.lemmas.List.{length-map}
use Rattle.vol_sector.specs.Disk.{Image, put, Wrote}
use Rattle.vol_log.specs.Header.{Places, IsHeader, header_bytes}
use Rattle.vol_log.specs.Batch.{over, logged, IsContent, SameContent, HasContent, HasEither}
use Rattle.vol_log.specs.internal.Batch.{numbers}
use Rattle.vol_log.specs.internal.Steps.{OnlyImagesChange, OutsideLog, Under}
use Rattle.vol_log.specs.declared.staged.Staged.{Staged}
use Rattle.vol_log.proofs.Images.{at_once, put_same, put_other, wrote_other, over_at}
use Rattle.vol_log.specs.declared.layout.TheConstants.{FIRST_AFTER_LOG}

past : {X : Type 0} (k n : ℕ) (x y : X) → k ≢ n → (if k == n then x else y) ≡ y
past k n x y ne = grind (arith, nat_tests)

-- a batch after the log leaves the sectors before it
over_low_at : (batch : List Staged) (k : ℕ) (m : Image) → ((j : ℕ) → j < length batch → FIRST_AFTER_LOG ≤ get_or (numbers batch) j 0) → k < FIRST_AFTER_LOG → over batch m k ≡ m k
over_low_at [] k m after_log low = refl
over_low_at (s ∷ batch) k m after_log low =
    let ne : k ≢ s.sector = omega (arith, after_log 0 (omega arith)) in
    let rest : over batch m k ≡ m k = over_low_at batch k m (λ j lt. after_log (suc j) (omega arith)) low in
    past k s.sector s.image (over batch m k) ne ∙ rest

pub over_low : (sectors : ℕ) (batch : List Staged) → Places sectors (numbers batch) → (k : ℕ) (m : Image) → k < FIRST_AFTER_LOG → over batch m k ≡ m k
over_low sectors batch places k m low =
    let long : length (numbers batch) ≡ length batch = length-map batch (λ (t : Staged). t.sector) in
    over_low_at batch k m (λ j lt. places.after_log j (omega (arith, long))) low

logged_same : (ns : List ℕ) (at : ℕ) (x y : Image) → at + length ns ≤ FIRST_AFTER_LOG → ((k : ℕ) → at ≤ k → k < FIRST_AFTER_LOG → x k ≡ y k) → logged ns at x ≡ logged ns at y
logged_same [] at x y le same = refl
logged_same (n ∷ ns) at x y le same =
    let here : x at ≡ y at = same at (omega arith) (omega arith) in
    let rest : logged ns (at + 1) x ≡ logged ns (at + 1) y = logged_same ns (at + 1) x y (omega arith) (λ k low high. same k (omega arith) high) in
    (λ i. (record { sector = n; image = here i }) ∷ rest i)

pub no_places : (sectors : ℕ) → Places sectors []
no_places sectors = record { few = omega arith; after_log = λ k lt. absurd (omega arith); there = λ k lt. absurd (omega arith); distinct = λ j k before lt. absurd (omega arith) }

-- an image with an empty log has its own content
pub has_own : (sectors : ℕ) (m content : Image) → IsHeader sectors (m 1) [] → SameContent m content → HasContent sectors m content
has_own sectors m content empty same = record { log = []; header = empty; same = same }

-- an image whose log holds the batch has the batch's content
pub has_batch : (sectors : ℕ) (batch : List Staged) (m content : Image) → IsHeader sectors (m 1) (numbers batch) → logged (numbers batch) 2 m ≡ batch → SameContent (over batch m) content → HasContent sectors m content
has_batch sectors batch m content header images same = record {
  log = numbers batch;
  header = header;
  same = λ k is. ap (λ (b : List Staged). over b m k) images ∙ same k is;
}

-- while the log's images are written
pub images_keep : (sectors : ℕ) (a m : Image) → IsHeader sectors (a 1) [] → OnlyImagesChange a m → HasContent sectors m a
images_keep sectors a m empty outside =
    has_own sectors m a (subst (λ (b : List ℕ). IsHeader sectors b []) (sym (outside 1 (inl (omega arith)))) empty) (λ k is. ⊎_elim (λ low. outside k (inl (omega arith))) (λ high. outside k (inr high)) is)

-- the images are in the log
pub outside_log : (a m : Image) → OnlyImagesChange a m → OutsideLog a m
outside_log a m outside k (inl small) = outside k (inl (omega (arith, small)))
outside_log a m outside k (inr high) = outside k (inr high)

-- so is the header
pub beside_header : (header : List ℕ) (d e : Image) → Wrote 1 header d e → OutsideLog d e
beside_header header d e wrote k (inl small) = let ne : k ≢ 1 = omega (arith, small) in wrote_other 1 k header d e wrote ne
beside_header header d e wrote k (inr high) = let ne : k ≢ 1 = omega (arith, high) in wrote_other 1 k header d e wrote ne

-- while the header is written
pub header_either : (sectors : ℕ) (batch : List Staged) (header : List ℕ) (a c m : Image) → IsHeader sectors (a 1) [] → Places sectors (numbers batch) → header ≡ header_bytes (numbers batch) → OnlyImagesChange a c → logged (numbers batch) 2 c ≡ batch → Wrote 1 header c m → HasEither sectors a (over batch a) m
header_either sectors batch header a c m empty places spelled outside images (inl same) =
    inl (subst (λ (x : Image). HasContent sectors x a) (sym same) (images_keep sectors a c empty outside))
header_either sectors batch header a c m empty places spelled outside images (inr written) =
    let low : (k : ℕ) → 2 ≤ k → m k ≡ c k = λ k le. let ne : k ≢ 1 = omega arith in at_once k m (put 1 header c) written ∙ put_other 1 k header c ne in
    let head : m 1 ≡ header_bytes (numbers batch) = at_once 1 m (put 1 header c) written ∙ put_same 1 header c ∙ spelled in
    inr (has_batch sectors batch m (over batch a) (record { places = places; spelled = head })
    (logged_same (numbers batch) 2 m c (omega (arith, places.few)) (λ k le lt. low k le) ∙ images)
    (λ k is. over_at batch k m a (content k is)))
  where
    content : (k : ℕ) → IsContent k → m k ≡ a k
    content k (inl small) = let ne : k ≢ 1 = omega arith in at_once k m (put 1 header c) written ∙ put_other 1 k header c ne ∙ outside k (inl (omega arith))
    content k (inr high) = let ne : k ≢ 1 = omega arith in at_once k m (put 1 header c) written ∙ put_other 1 k header c ne ∙ outside k (inr high)

pub header_done : (sectors : ℕ) (batch : List Staged) (header : List ℕ) (c m : Image) → Places sectors (numbers batch) → header ≡ header_bytes (numbers batch) → logged (numbers batch) 2 c ≡ batch → m ≡ put 1 header c → IsHeader sectors (m 1) (numbers batch) × (logged (numbers batch) 2 m ≡ batch)
header_done sectors batch header c m places spelled images written = (
  record { places = places; spelled = at_once 1 m (put 1 header c) written ∙ put_same 1 header c ∙ spelled },
  logged_same (numbers batch) 2 m c (omega (arith, places.few)) (λ k le lt. let ne : k ≢ 1 = omega arith in at_once k m (put 1 header c) written ∙ put_other 1 k header c ne) ∙ images,
)

-- while the batch is written in its places
pub install_keeps : (sectors : ℕ) (batch : List Staged) (a m : Image) → IsHeader sectors (a 1) (numbers batch) → logged (numbers batch) 2 a ≡ batch → Under batch a m → HasContent sectors m (over batch a)
install_keeps sectors batch a m header images under =
    has_batch sectors batch m (over batch a) (subst (λ (b : List ℕ). IsHeader sectors b (numbers batch)) (sym (low 1 (omega arith))) header)
    (logged_same (numbers batch) 2 m a (omega (arith, header.places.few)) (λ k le lt. low k lt) ∙ images)
    (λ k is. at_once k (over batch m) (over batch a) under)
  where
    low : (k : ℕ) → k < FIRST_AFTER_LOG → m k ≡ a k
    low k lt = sym (over_low sectors batch header.places k m lt) ∙ at_once k (over batch m) (over batch a) under ∙ over_low sectors batch header.places k a lt

-- while the header is emptied
pub emptied : (sectors : ℕ) (batch : List Staged) (header : List ℕ) (a c m : Image) → IsHeader sectors (a 1) (numbers batch) → logged (numbers batch) 2 a ≡ batch → header ≡ header_bytes [] → c ≡ over batch a → Under batch a c → Wrote 1 header c m → HasContent sectors m (over batch a)
emptied sectors batch header a c m right images spelled done under (inl same) =
    subst (λ (x : Image). HasContent sectors x (over batch a)) (sym same) (install_keeps sectors batch a c right images under)
emptied sectors batch header a c m right images spelled done under (inr written) =
    has_own sectors m (over batch a) (record { places = no_places sectors; spelled = at_once 1 m (put 1 header c) written ∙ put_same 1 header c ∙ spelled })
    (content)
  where
    content : (k : ℕ) → IsContent k → m k ≡ over batch a k
    content k is = let ne : k ≢ 1 = ⊎_elim (λ low. let n : k ≢ 1 = omega arith in n) (λ high. let n : k ≢ 1 = omega arith in n) is in
        at_once k m (put 1 header c) written ∙ put_other 1 k header c ne ∙ at_once k c (over batch a) done

pub emptied_done : (sectors : ℕ) (batch : List Staged) (header : List ℕ) (a c m : Image) → header ≡ header_bytes [] → c ≡ over batch a → m ≡ put 1 header c → IsHeader sectors (m 1) [] × SameContent m (over batch a)
emptied_done sectors batch header a c m spelled done written = (
  record { places = no_places sectors; spelled = at_once 1 m (put 1 header c) written ∙ put_same 1 header c ∙ spelled },
  content,
)
  where
    content : (k : ℕ) → IsContent k → m k ≡ over batch a k
    content k is = let ne : k ≢ 1 = ⊎_elim (λ low. let n : k ≢ 1 = omega arith in n) (λ high. let n : k ≢ 1 = omega arith in n) is in
        at_once k m (put 1 header c) written ∙ put_other 1 k header c ne ∙ at_once k c (over batch a) done

pub under_same : (batch : List Staged) (a d : Image) → Under batch a d → SameContent (over batch d) (over batch a)
under_same batch a d under k is = at_once k (over batch d) (over batch a) under

pub under_header : (batch : List Staged) (header : List ℕ) (a d e : Image) → Under batch a d → Wrote 1 header d e → SameContent (over batch e) (over batch a)
under_header batch header a d e under wrote k is =
    let ne : k ≢ 1 = ⊎_elim (λ low. let n : k ≢ 1 = omega arith in n) (λ high. let n : k ≢ 1 = omega arith in n) is in
    over_at batch k e d (wrote_other 1 k header d e wrote ne) ∙ at_once k (over batch d) (over batch a) under

pub has_same : (sectors : ℕ) (m x y : Image) → SameContent x y → HasContent sectors m x → HasContent sectors m y
has_same sectors m x y same has = record { log = has.log; header = has.header; same = λ k is. has.same k is ∙ same k is }

pub over_outside : (batch : List Staged) (a b : Image) → OutsideLog a b → SameContent (over batch b) (over batch a)
over_outside batch a b outside k is = over_at batch k b a (outside k is)
