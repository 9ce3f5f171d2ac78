-- A set of texts is as large as the list that it was made of exactly where no two texts agree.
use Rattle.std.proofs.Common.{◌≡◌, ◌≢◌, ℕ, false, List, [], ◌∷◌, length, map, sym, ◌∙◌, ap, IsTrue, ◌↔◌, nat_eq, Bor, Ordering, subst}
use Rattle.std.proofs.lemmas.List.{length-map}
use Rattle.std.specs.List.{AllByRecursion, IsDistinct}
use Rattle.std.specs.Ordering.{eq_by_cmp, nat_cmp}
use Rattle.std.specs.Cmp.{IsTotalOrder}
use Rattle.std.specs.Cmp.Lexicographic.{slice_cmp, on_texts}
use Rattle.std.specs.Str.{bytes_eq}
use Rattle.std.specs.Set.{distinct_count}
use Rattle.std.proofs.lemmas.Bool.{false_from_ne_true, false≢true}
use Rattle.std.proofs.lemmas.Bool.Decides.{Decides-eqb}
use Rattle.std.proofs.lemmas.Slice.Eq.{bytes_eq-Decides}
use Rattle.std.proofs.lemmas.Map.Text.{is_eq-slice_cmp}
use Rattle.std.proofs.lemmas.Map.Keys.{IsDistinct-head, IsDistinct-tail}
use Rattle.std.proofs.lemmas.Map.Made.{IsDistinct-from_count, distinct_count-from_IsDistinct}
use Rattle.std.proofs.lemmas.Cmp.{eq_by_cmp_equiv}
use Rattle.wasm_valid.specs.Validity.{AreApart}

-- the order of texts
abbrev pub text_cmp : Bor (List ℕ) → Bor (List ℕ) → Ordering
text_cmp x y = slice_cmp nat_cmp x.now y.now

abbrev pub now_of : Bor (List ℕ) → List ℕ
now_of x = x.now

-- ---- one text and the others

others_differ : (x : Bor (List ℕ)) (xs : List (Bor (List ℕ))) → AllByRecursion (λ y. eq_by_cmp text_cmp x y ≡ false) xs → AllByRecursion (λ m. m ≢ x.now) (map now_of xs)
others_differ x [] h = tt
others_differ x (y ∷ ys) h =
    let tested : bytes_eq x.now y.now ≡ false = sym (is_eq-slice_cmp x.now y.now) ∙ h.0 in
    (λ same. false≢true (sym tested ∙ (bytes_eq-Decides x.now y.now).1 (sym same)), others_differ x ys h.1)

others_tested : (x : Bor (List ℕ)) (xs : List (Bor (List ℕ))) → AllByRecursion (λ m. m ≢ x.now) (map now_of xs) → AllByRecursion (λ y. eq_by_cmp text_cmp x y ≡ false) xs
others_tested x [] h = tt
others_tested x (y ∷ ys) h =
    let tested : bytes_eq x.now y.now ≡ false = false_from_ne_true (bytes_eq x.now y.now) (λ same. h.0 (sym ((bytes_eq-Decides x.now y.now).0 same))) in
    (is_eq-slice_cmp x.now y.now ∙ tested, others_tested x ys h.1)

-- ---- all of them

apart_from_distinct : (xs : List (Bor (List ℕ))) → IsDistinct (eq_by_cmp text_cmp) xs → AreApart (map now_of xs)
apart_from_distinct [] h = tt
apart_from_distinct (x ∷ xs) h =
    (others_differ x xs (IsDistinct-head (eq_by_cmp text_cmp) x xs h), apart_from_distinct xs (IsDistinct-tail (eq_by_cmp text_cmp) x xs h))

distinct_from_apart : (xs : List (Bor (List ℕ))) → AreApart (map now_of xs) → IsDistinct (eq_by_cmp text_cmp) xs
unfolding IsDistinct
distinct_from_apart [] h = tt
distinct_from_apart (x ∷ xs) h = (others_tested x xs h.0, distinct_from_apart xs h.1)

pub text_total : IsTotalOrder text_cmp
text_total = on_texts now_of

-- a set of n texts, of the texts that say these names
pub counts_apart : (names : List (List ℕ)) (xs : List (Bor (List ℕ))) (n : ℕ) → map now_of xs ≡ names → n ≡ distinct_count (eq_by_cmp text_cmp) xs → IsTrue (nat_eq n (length names)) ↔ AreApart names
counts_apart names xs n are count =
    let laws = eq_by_cmp_equiv text_total in
    let long : length names ≡ length xs = ap length (sym are) ∙ length-map xs now_of in (
      λ same. subst AreApart are (apart_from_distinct xs (IsDistinct-from_count laws xs (sym count ∙ ((Decides-eqb n (length names)).0 same ∙ long)))),
      λ apart. (Decides-eqb n (length names)).1 (count ∙ (distinct_count-from_IsDistinct laws xs (distinct_from_apart xs (subst AreApart (sym are) apart)) ∙ sym long)),
    )
