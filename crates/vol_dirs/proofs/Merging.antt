-- How late serials are merged into the long list.
use Rattle.std.proofs.Common.{◌≡◌, ◌≢◌, ◌↔◌, inl, inr, ℕ, ◌+◌, ◌-◌, ◌≤◌, ◌<◌, List, [], ◌∷◌, ◌++◌, length, take, drop, get_or, refl, sym, ◌∙◌, ap, ap₂, subst, arith}
use Rattle.std.specs.Prelude.{slice_range}
use Rattle.std.specs.List.{Contains}
use Rattle.std.specs.List.Sorted.{IsPermutation}
use Rattle.std.specs.declared.cmp.Ordering.{Ordering}
use Rattle.std.specs.declared.cmp.Ordering.TheVariants.{Less, Equal, Greater}
use Rattle.std.proofs.lemmas.Bool.{cases_lt}
use Rattle.std.proofs.lemmas.List.{get_or_default, get_or_append_left, get_or-append_right, get_or-take, get_or-drop, length-append, length-take-le, length-drop, append_assoc, take_more, take_all, take-append-drop, drop-take, take-take}
use Rattle.std.proofs.lemmas.List.Elements.{Contains-get_or, Contains-append_left, Contains-append_cases, Contains-push_cases}
use Rattle.std.proofs.lemmas.List.Sorted.{IsPermutation-append_left, IsPermutation-append_right, IsPermutation-append_comm, IsPermutation-trans, IsPermutation-refl, Contains-permutation, length_permutation}
use Rattle.vol_dirs.specs.internal.Rising.{Rises, IsFirstOver, AreApart}
use Rattle.vol_dirs.specs.internal.Listing.{key_order}
use Rattle.vol_dirs.specs.Serials.{key_at, keys_in}
use Rattle.vol_dirs.proofs.Orders.{key_total, key_ties}
use Rattle.vol_dirs.proofs.Search.{less_back, not_both}
use Rattle.vol_dirs.proofs.Places.{as_many, key_there}
use Rattle.vol_dirs.proofs.Apart.{not_in_both}

-- the key of one serial is below that of another
abbrev Before : List (List ℕ) → ℕ → ℕ → Type 0
Before names one other = key_order (key_at names one) (key_at names other) ≡ Less

abbrev AllBefore : List (List ℕ) → List ℕ → List ℕ → Type 0
AllBefore names xs ys = (x y : ℕ) → Contains xs x → Contains ys y → Before names x y

abbrev InOrder : List (List ℕ) → List ℕ → Type 0
InOrder names xs = (i j : ℕ) → i < j → j < length xs → Before names (get_or xs i 0) (get_or xs j 0)

module _ (names : List (List ℕ)) where
  both : (a b c e : List ℕ × ℕ) → a ≡ c → b ≡ e → key_order c e ≡ Less → key_order a b ≡ Less
  both a b c e first second is = cc

  pub in_order : (xs : List ℕ) → Rises key_order (keys_in names xs) → InOrder names xs
  in_order xs rises i j lt there =
      both _ _ (get_or (keys_in names xs) i ([], 0)) (get_or (keys_in names xs) j ([], 0)) (sym (key_there names xs i ([], 0) (omega arith))) (sym (key_there names xs j ([], 0) there)) (rises i j ([], 0) lt (omega (arith, as_many names xs)))

  pub order_rises : (xs : List ℕ) → InOrder names xs → Rises key_order (keys_in names xs)
  order_rises xs ordered i j d lt there =
      let inside : j < length xs = omega (arith, as_many names xs) in
      both _ _ (key_at names (get_or xs i 0)) (key_at names (get_or xs j 0)) (key_there names xs i d (omega arith)) (key_there names xs j d inside) (ordered i j lt inside)

  -- the later of two that differ
  pub not_before : (a b : ℕ) → (Before names a b → ⊥) → a ≢ b → Before names b a
  not_before a b never differ = by (key_order (key_at names a) (key_at names b)) refl
    where
      by : (r : Ordering) → key_order (key_at names a) (key_at names b) ≡ r → Before names b a
      by Less is = absurd (never is)
      by Equal is = absurd (differ (ap (λ (x : List ℕ × ℕ). x.1) (key_ties (key_at names a) (key_at names b) is)))
      by Greater is = less_back key_total (key_at names a) (key_at names b) is

  pub never_both : (a b : ℕ) → Before names a b → Before names b a → ⊥
  never_both a b less back = not_both key_total (key_at names a) (key_at names b) less back

  before_then : (a b c : ℕ) → Before names a b → Before names b c → Before names a c
  before_then a b c first second = key_total.trans (key_at names a) (key_at names b) (key_at names c) first second

  pub joined_order : (xs ys : List ℕ) → InOrder names xs → InOrder names ys → AllBefore names xs ys → InOrder names (xs ++ ys)
  joined_order xs ys first second all i j lt there = elim (cases_lt j (length xs)) [
    | inl below ↦ serials _ _ (get_or xs i 0) (get_or xs j 0) (get_or_append_left xs ys 0 i (omega arith)) (get_or_append_left xs ys 0 j below) (first i j lt below)
    | inr past ↦
        let inside : j - length xs < length ys = omega (arith, length-append xs ys) in
        let right = get_or-append_right xs ys (length xs) j 0 refl past in
        elim (cases_lt i (length xs)) [
          | inl below ↦ serials _ _ (get_or xs i 0) (get_or ys (j - length xs) 0) (get_or_append_left xs ys 0 i below) right (all _ _ (Contains-get_or xs i 0 below) (Contains-get_or ys (j - length xs) 0 inside))
          | inr over ↦ serials _ _ (get_or ys (i - length xs) 0) (get_or ys (j - length xs) 0) (get_or-append_right xs ys (length xs) i 0 refl over) right (second (i - length xs) (j - length xs) (omega arith) inside)
        ]
  ]
    where
      serials : (a b c e : ℕ) → a ≡ c → b ≡ e → Before names c e → Before names a b
      serials a b c e one other is = cc

-- ---- parts of a list

pub in_drop : (n : ℕ) (xs : List ℕ) (y : ℕ) → Contains (drop n xs) y → (k : ℕ) × (n ≤ k) × (k < length xs) × (get_or xs k 0 ≡ y)
in_drop n xs y has =
    let lt : n + has.0 < length xs = omega (arith, has.1, length-drop n xs) in
    (n + has.0, omega arith, lt, get_or_default xs (n + has.0) 0 y lt ∙ (sym (get_or-drop n xs has.0 y) ∙ has.2))

pub drop_has : (n : ℕ) (xs : List ℕ) (k : ℕ) → n ≤ k → k < length xs → Contains (drop n xs) (get_or xs k 0)
drop_has n xs k le lt =
    let y = get_or xs k 0 in
    (k - n, omega (arith, length-drop n xs), get_or-drop n xs (k - n) y ∙ (ap (λ (q : ℕ). get_or xs q y) {y = k} (omega arith) ∙ get_or_default xs k y 0 lt))

part_long : (xs : List ℕ) (from at : ℕ) → from ≤ at → at ≤ length xs → length (slice_range xs from at) ≡ at - from
part_long xs from at le within = length-take-le (at - from) (drop from xs) (omega (arith, length-drop from xs))

part_at : (xs : List ℕ) (from at k d : ℕ) → k < at - from → get_or (slice_range xs from at) k d ≡ get_or xs (from + k) d
part_at xs from at k d lt = get_or-take (at - from) (drop from xs) k d lt ∙ get_or-drop from xs k d

pub in_part : (xs : List ℕ) (from at y : ℕ) → from ≤ at → at ≤ length xs → Contains (slice_range xs from at) y → (k : ℕ) × (from ≤ k) × (k < at) × (get_or xs k 0 ≡ y)
in_part xs from at y le within has =
    let lt : has.0 < at - from = omega (arith, has.1, part_long xs from at le within) in
    (from + has.0, omega arith, omega arith, get_or_default xs (from + has.0) 0 y (omega arith) ∙ (sym (part_at xs from at has.0 y lt) ∙ has.2))

part_order : (names : List (List ℕ)) (xs : List ℕ) (from at : ℕ) → from ≤ at → at ≤ length xs → InOrder names xs → InOrder names (slice_range xs from at)
part_order names xs from at le within ordered i j lt there =
    let inside : j < at - from = omega (arith, part_long xs from at le within) in
    serials _ _ (get_or xs (from + i) 0) (get_or xs (from + j) 0) (part_at xs from at i 0 (omega arith)) (part_at xs from at j 0 inside) (ordered (from + i) (from + j) (omega arith) (omega arith))
  where
    serials : (a b c e : ℕ) → a ≡ c → b ≡ e → Before names c e → Before names a b
    serials a b c e one other is = cc

take_part : (xs : List ℕ) (from at : ℕ) → from ≤ at → take at xs ≡ take from xs ++ slice_range xs from at
take_part xs from at le = sym (take-append-drop from (take at xs)) ∙ ap₂ (λ (p q : List ℕ). p ++ q) first second
  where
    first : take from (take at xs) ≡ take from xs
    first = take-take from at xs le

    second : drop from (take at xs) ≡ slice_range xs from at
    second = ap (λ (q : ℕ). drop from (take q xs)) {y = from + (at - from)} (omega arith) ∙ drop-take from (at - from) xs

-- ---- the steps

-- so many of both lists were merged
pub record HasMerged (names : List (List ℕ)) (long late : List ℕ) (from i : ℕ) (merged : List ℕ) : Type 0 where
  pub moved : IsPermutation (take from long ++ take i late) merged
  pub ordered : InOrder names merged
  pub before_long : AllBefore names merged (drop from long)
  pub before_late : AllBefore names merged (drop i late)

pub none_merged : (names : List (List ℕ)) (long late : List ℕ) → HasMerged names long late 0 0 []
none_merged names long late = record {
  moved = IsPermutation-refl [];
  ordered = λ i j lt there. absurd (omega arith);
  before_long = λ x y has other. absurd (omega (arith, has.1));
  before_late = λ x y has other. absurd (omega (arith, has.1));
}

-- items that are moved by one part each
with_first : (a b p : List ℕ) (m : List ℕ) → IsPermutation (a ++ b) m → IsPermutation ((a ++ p) ++ b) (m ++ p)
with_first a b p m moved =
    let swapped : IsPermutation (a ++ (p ++ b)) (a ++ (b ++ p)) = IsPermutation-append_right a (p ++ b) (b ++ p) (IsPermutation-append_comm p b) in
    let at_end : IsPermutation ((a ++ p) ++ b) ((a ++ b) ++ p) = subst (λ (l : List ℕ). IsPermutation l ((a ++ b) ++ p)) (sym (append_assoc a p b)) (subst (λ (l : List ℕ). IsPermutation (a ++ (p ++ b)) l) (sym (append_assoc a b p)) swapped) in
    IsPermutation-trans ((a ++ p) ++ b) ((a ++ b) ++ p) (m ++ p) at_end (IsPermutation-append_left p (a ++ b) m moved)

only_one : (s y : ℕ) → Contains (s ∷ []) y → s ≡ y
only_one s y has = elim (Contains-push_cases [] s y has) [
  | inl none ↦ absurd (omega (arith, none.1))
  | inr same ↦ same
]

module _ (names : List (List ℕ)) (long late : List ℕ) (from i : ℕ) (merged : List ℕ) (done : HasMerged names long late from i merged) where
  -- a part of the long list more
  pub long_merged : (at : ℕ) → from ≤ at → at ≤ length long → InOrder names long → AllBefore names (slice_range long from at) (drop i late) → HasMerged names long late at i (merged ++ slice_range long from at)
  long_merged at le within ordered before =
      let part : List ℕ = slice_range long from at in
      record {
        moved = subst (λ (l : List ℕ). IsPermutation (l ++ take i late) (merged ++ part)) (sym (take_part long from at le)) (with_first (take from long) (take i late) part merged done.moved);
        ordered = joined_order names merged part done.ordered (part_order names long from at le within ordered) (λ x y has other.
            let k = in_part long from at y le within other in
            subst (λ (q : ℕ). Before names x q) k.3 (done.before_long x (get_or long k.0 0) has (drop_has from long k.0 k.1 (omega (arith, k.2)))));
        before_long = λ x y has other.
            let k = in_drop at long y other in
            elim (Contains-append_cases merged part x has) [
              | inl old ↦ subst (λ (q : ℕ). Before names x q) k.3 (done.before_long x (get_or long k.0 0) old (drop_has from long k.0 (omega (arith, k.1)) k.2))
              | inr new ↦
                  let m = in_part long from at x le within new in
                  subst (λ (q : ℕ). Before names x q) k.3 (subst (λ (q : ℕ). Before names q (get_or long k.0 0)) m.3 (ordered m.0 k.0 (omega (arith, m.2, k.1)) k.2))
            ];
        before_late = λ x y has other. elim (Contains-append_cases merged part x has) [
          | inl old ↦ done.before_late x y old other
          | inr new ↦ before x y new other
        ];
      }

  -- a late serial more
  pub late_merged : i < length late → InOrder names late → AllBefore names (get_or late i 0 ∷ []) (drop from long) → HasMerged names long late from (i + 1) (merged ++ get_or late i 0 ∷ [])
  late_merged lt ordered before =
      let s : ℕ = get_or late i 0 in
      record {
        moved = subst (λ (l : List ℕ). IsPermutation (take from long ++ l) (merged ++ s ∷ [])) (sym (take_more late i 0 lt))
            (subst (λ (l : List ℕ). IsPermutation l (merged ++ s ∷ [])) (append_assoc (take from long) (take i late) (s ∷ [])) (IsPermutation-append_left (s ∷ []) (take from long ++ take i late) merged done.moved));
        ordered = joined_order names merged (s ∷ []) done.ordered (λ a b less there. absurd (omega arith)) (λ x y has other. subst (λ (q : ℕ). Before names x q) (only_one s y other) (done.before_late x s has (drop_has i late i (omega arith) lt)));
        before_long = λ x y has other. elim (Contains-append_cases merged (s ∷ []) x has) [
          | inl old ↦ done.before_long x y old other
          | inr new ↦ before x y new other
        ];
        before_late = λ x y has other.
            let k = in_drop (i + 1) late y other in
            elim (Contains-append_cases merged (s ∷ []) x has) [
              | inl old ↦ subst (λ (q : ℕ). Before names x q) k.3 (done.before_late x (get_or late k.0 0) old (drop_has i late k.0 (omega (arith, k.1)) k.2))
              | inr new ↦ subst (λ (q : ℕ). Before names x q) k.3 (subst (λ (q : ℕ). Before names q (get_or late k.0 0)) (only_one s x new) (ordered i k.0 (omega (arith, k.1)) k.2))
            ];
      }

-- ---- where the next late serial goes

module _ (names : List (List ℕ)) (long late : List ℕ) (apart : AreApart (long ++ late)) (from i : ℕ) (merged : List ℕ) (done : HasMerged names long late from i merged) (at : ℕ) (inside : i < length late) (within : at ≤ length long) (found : IsFirstOver key_order (keys_in names long) (key_at names (get_or late i 0)) at) where
  abbrev x : ℕ
  x = get_or late i 0

  long_there : (k : ℕ) → k < length long → Before names x (get_or long k 0) ↔ (key_order (key_at names x) (get_or (keys_in names long) k ([], 0)) ≡ Less)
  long_there k lt = let same = key_there names long k ([], 0) lt in (λ is. ap (key_order (key_at names x)) same ∙ is, λ is. sym (ap (key_order (key_at names x)) same) ∙ is)

  pub from_le : from ≤ length long → from ≤ at
  from_le short = elim (cases_lt at from) [
    | inl lt ↦
        let y = get_or long at 0 in
        let over : Before names x y = (long_there at (omega arith)).1 (found.from at ([], 0) (omega arith) (omega (arith, as_many names long))) in
        let taken : Contains (take from long) y = (at, omega (arith, length-take-le from long short), get_or-take from long at y lt ∙ get_or_default long at y 0 (omega arith)) in
        let has : Contains merged y = Contains-permutation (take from long ++ take i late) merged y done.moved (Contains-append_left (take from long) (take i late) y taken) in
        absurd (never_both names x y over (done.before_late y x has (drop_has i late i (omega arith) inside)))
    | inr le ↦ le
  ]

  -- what goes before it is before all late ones
  pub part_before : from ≤ at → InOrder names late → AllBefore names (slice_range long from at) (drop i late)
  part_before le ordered y z has other =
      let k = in_part long from at y le within has in
      let m = in_drop i late z other in
      let there : k.0 < length long = omega (arith, k.2) in
      let differ : x ≢ get_or long k.0 0 = λ same. not_in_both long late x apart (subst (λ (q : ℕ). Contains long q) (sym same) (Contains-get_or long k.0 0 there)) (Contains-get_or late i 0 inside) in
      let first : Before names (get_or long k.0 0) x = not_before names x (get_or long k.0 0) (λ over. found.before k.0 ([], 0) k.2 ((long_there k.0 there).0 over)) differ in
      let last : Before names (get_or long k.0 0) (get_or late m.0 0) = elim (cases_lt i m.0) [
        | inl more ↦ before_then names (get_or long k.0 0) x (get_or late m.0 0) first (ordered i m.0 more m.2)
        | inr le2 ↦ subst (λ (q : ℕ). Before names (get_or long k.0 0) (get_or late q 0)) {x = i} (omega (arith, m.1)) first
      ] in
      subst (λ (q : ℕ). Before names y q) m.3 (subst (λ (q : ℕ). Before names q (get_or late m.0 0)) k.3 last)

  -- and it is before all that is left of the long list
  pub before_rest : AllBefore names (x ∷ []) (drop at long)
  before_rest y z has other =
      let k = in_drop at long z other in
      let own : x ≡ y = only_one x y has in
      let over : Before names x (get_or long k.0 0) = (long_there k.0 k.2).1 (found.from k.0 ([], 0) k.1 (omega (arith, k.2, as_many names long))) in
      subst (λ (q : ℕ). Before names y q) k.3 (subst (λ (q : ℕ). Before names q (get_or long k.0 0)) own over)

-- ---- how much was merged, and all of it

pub merged_long : (names : List (List ℕ)) (long late : List ℕ) (from i : ℕ) (merged : List ℕ) → HasMerged names long late from i merged → from ≤ length long → i ≤ length late → length merged ≡ from + i
merged_long names long late from i merged done first second =
    let same = length_permutation (take from long ++ take i late) merged done.moved in
    omega (arith, same, length-append (take from long) (take i late), length-take-le from long first, length-take-le i late second)

pub part_fits : (names : List (List ℕ)) (long late : List ℕ) (from i : ℕ) (merged : List ℕ) → HasMerged names long late from i merged → i ≤ length late → (at room : ℕ) → from ≤ at → at ≤ length long → at + i ≤ room → length (merged ++ slice_range long from at) ≤ room
part_fits names long late from i merged done second at room le within fits =
    omega (arith, length-append merged (slice_range long from at), part_long long from at le within, merged_long names long late from i merged done (omega arith) second)

pub all_merged : (names : List (List ℕ)) (long late : List ℕ) (from i : ℕ) (merged : List ℕ) → HasMerged names long late from i merged → from ≤ length long → length late ≤ i → InOrder names long → HasMerged names long late (length long) i (merged ++ slice_range long from (length long))
all_merged names long late from i merged done first second ordered = long_merged names long late from i merged done (length long) first (omega arith) ordered (λ x y has other. let k = in_drop i late y other in absurd (omega (arith, k.1, k.2)))

pub moved_all : (names : List (List ℕ)) (long late : List ℕ) (i : ℕ) (merged : List ℕ) → HasMerged names long late (length long) i merged → length late ≤ i → IsPermutation (long ++ late) merged
moved_all names long late i merged done second = subst (λ (l : List ℕ). IsPermutation l merged) (ap₂ (λ (p q : List ℕ). p ++ q) (take_all (length long) long (omega arith)) (take_all i late second)) done.moved
