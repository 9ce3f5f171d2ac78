-- What is read of a right header.
use Rattle.std.proofs.Common.{◌≡◌, ◌≢◌, inl, inr, ℕ, zero, suc, ◌+◌, ◌-◌, ◌*◌, ◌^◌, ◌≤◌, ◌<◌, List, [], ◌∷◌, ◌++◌, length, get_or, drop, replicate, refl, sym, ◌∙◌, ap, subst, arith, true, eq-eqb, ◌&&◌, nat_eq}
use Rattle.std.specs.Cmp.Lexicographic.{pointwise}
use Rattle.std.specs.List.{flat_map}
use Rattle.std.proofs.lemmas.List.{append_assoc, length_push, get_or_push, get_or_append_left}
use Rattle.std.proofs.lemmas.Bool.{cases_eq}
use borrow.Rule.Slice.PartMut.{mid_of}
use Rattle.byteorder.specs.Endian.{little_bytes, little_number}
use Rattle.byteorder.specs.Numbers.{little_number-reads_back, little_from-take}
use Rattle.vol_log.specs.Header.{Places, IsHeader}
use Rattle.vol_log.specs.declared.layout.TheConstants.{FIRST_AFTER_LOG}

pub same_bytes : (xs ys : List ℕ) → xs ≡ ys → pointwise nat_eq xs ys ≡ true
same_bytes xs ys same = subst (λ (l : List ℕ). pointwise nat_eq xs l ≡ true) same (each xs)
  where
    each : (zs : List ℕ) → pointwise nat_eq zs zs ≡ true
    each [] = refl
    each (z ∷ zs) = (λ i. eq-eqb z z refl i && each zs i)

pub count_is : (sectors : ℕ) (header ns : List ℕ) → IsHeader sectors header ns → little_number 4 header ≡ length ns
count_is sectors header ns right =
    let rest = flat_map (little_bytes 4) ns ++ replicate (508 - 4 * length ns) 0 in
    let whole : header ≡ little_bytes 4 (length ns) ++ rest = right.spelled ∙ append_assoc (little_bytes 4 (length ns)) (flat_map (little_bytes 4) ns) (replicate (508 - 4 * length ns) 0) in
    let small : length ns < 256 ^ 4 = omega (arith, right.places.few) in
    ap (little_number 4) whole ∙ little_number-reads_back 4 (length ns) rest small

-- the i-th of numbers that are spelled one after another
number_at : (ns : List ℕ) (i : ℕ) (rest : List ℕ) → i < length ns → get_or ns i 0 < 256 ^ 4 → little_number 4 (drop (4 * i) (flat_map (little_bytes 4) ns ++ rest)) ≡ get_or ns i 0
number_at [] i rest lt small = absurd (omega arith)
number_at (n ∷ ns) zero rest lt small = ap (little_number 4) (append_assoc (little_bytes 4 n) (flat_map (little_bytes 4) ns) rest) ∙ little_number-reads_back 4 n (flat_map (little_bytes 4) ns ++ rest) small
number_at (n ∷ ns) (suc i) rest lt small =
    let four : 4 * suc i ≡ suc (suc (suc (suc (4 * i)))) = omega arith in
    ap (λ (k : ℕ). little_number 4 (drop k (flat_map (little_bytes 4) (n ∷ ns) ++ rest))) four ∙ number_at ns i rest (omega arith) small

pub number_is : (sectors : ℕ) (header ns : List ℕ) (i : ℕ) → sectors < 256 ^ 4 → IsHeader sectors header ns → i < length ns → little_number 4 (mid_of (4 + 4 * i) (512 - (4 + 4 * i)) header) ≡ get_or ns i 0
number_is sectors header ns i fits right lt =
    let zeros = replicate (508 - 4 * length ns) 0 in
    let whole : header ≡ little_bytes 4 (length ns) ++ (flat_map (little_bytes 4) ns ++ zeros) = right.spelled ∙ append_assoc (little_bytes 4 (length ns)) (flat_map (little_bytes 4) ns) zeros in
    let few : i < 120 = omega (arith, right.places.few) in
    let four : 4 + 4 * i ≡ suc (suc (suc (suc (4 * i)))) = omega arith in
    let there = right.places.there i lt in
    let small : get_or ns i 0 < 256 ^ 4 = omega arith in
    little_from-take 0 4 (512 - (4 + 4 * i)) (drop (4 + 4 * i) header) (omega arith)
    ∙ ap (λ (l : List ℕ). little_number 4 (drop (4 + 4 * i) l)) whole
    ∙ ap (λ (k : ℕ). little_number 4 (drop k (little_bytes 4 (length ns) ++ (flat_map (little_bytes 4) ns ++ zeros)))) four
    ∙ number_at ns i zeros lt small

-- one number more that a header may name
pub places_more : (sectors : ℕ) (ns : List ℕ) (n : ℕ) → Places sectors ns → length ns < 120 → FIRST_AFTER_LOG ≤ n → n < sectors → ((k : ℕ) → k < length ns → get_or ns k 0 ≢ n) → Places sectors (ns ++ n ∷ [])
places_more sectors ns n places short after_log there new = record {
  few = omega (arith, length_push ns n);
  after_log = λ k lt. at k (λ (x : ℕ). FIRST_AFTER_LOG ≤ x) lt (λ l. places.after_log k l) after_log;
  there = λ k lt. at k (λ (x : ℕ). x < sectors) lt (λ l. places.there k l) there;
  distinct = λ j k before lt. differ j k before lt;
}
  where
    long : length (ns ++ n ∷ []) ≡ length ns + 1
    long = length_push ns n

    old : (k : ℕ) → k < length ns → get_or (ns ++ n ∷ []) k 0 ≡ get_or ns k 0
    old k l = get_or_append_left ns (n ∷ []) 0 k l

    last : get_or (ns ++ n ∷ []) (length ns) 0 ≡ n
    last = get_or_push ns n 0 (length ns) refl

    at : (k : ℕ) (P : ℕ → Type 0) → k < length (ns ++ n ∷ []) → (k < length ns → P (get_or ns k 0)) → P n → P (get_or (ns ++ n ∷ []) k 0)
    at k P lt before here = elim (cases_eq k (length ns)) [
      | inl is ↦ subst P (sym (ap (λ (q : ℕ). get_or (ns ++ n ∷ []) q 0) is ∙ last)) here
      | inr other ↦ let l : k < length ns = omega (arith, long) in subst P (sym (old k l)) (before l)
    ]

    differ : (j k : ℕ) → j < k → k < length (ns ++ n ∷ []) → get_or (ns ++ n ∷ []) j 0 ≢ get_or (ns ++ n ∷ []) k 0
    differ j k before lt same = elim (cases_eq k (length ns)) [
      | inl is ↦ let l : j < length ns = omega (arith, long) in new j l (sym (old j l) ∙ same ∙ ap (λ (q : ℕ). get_or (ns ++ n ∷ []) q 0) is ∙ last)
      | inr other ↦ let l : k < length ns = omega (arith, long) in let m : j < length ns = omega arith in places.distinct j k before l (sym (old j m) ∙ same ∙ old k l)
    ]
