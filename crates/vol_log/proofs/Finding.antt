-- What a search of the index finds, and what an entry more does to it.
use Rattle.std.proofs.Common.{◌≡◌, ◌≢◌, ℕ, ◌+◌, ◌-◌, ◌<◌, ◌≤◌, [], ◌∷◌, ◌++◌, List, length, get_or, Result, Ok, Err, IfOk, IfErr, ◌⊎◌, inl, inr, refl, sym, ◌∙◌, ap, subst, arith}
use Rattle.std.specs.List.{insert}
use Rattle.std.specs.List.Sorted.{IsSearchInRange, IsBinarySearchResult, IsNonDecreasingBy}
use Rattle.std.specs.Ordering.{nat_cmp, ordering_index}
use Rattle.std.proofs.lemmas.Cmp.{ranked}
use Rattle.std.proofs.lemmas.List.{length_push, get_or_push, get_or_append_left}
use Rattle.std.proofs.lemmas.List.Sorted.{IsNonDecreasingBy-from_default}
use Rattle.std.proofs.lemmas.List.Edits.{length-insert, get_or-insert_below, get_or-insert_at, get_or-insert_above}
use Rattle.std.proofs.lemmas.Bool.{cases_eq, cases_lt}
use Rattle.std.proofs.lemmas.Bool.Decides.{nat_tests}
use Rattle.vol_log.specs.internal.Index.{Index, number_at, place_at, Rises, IsIndex}
use Rattle.vol_log.specs.internal.Index.{IsEntryOfNumber, IsGapFor}

pub no_index : IsIndex [] []
no_index = record {
  rises = λ i j lt in_range. absurd (omega arith);
  same_length = refl;
  points = λ i in_range. absurd (omega arith);
  whole = λ p in_range. absurd (omega arith);
}

module _ (index : Index) (rises : Rises index) (number : ℕ) where
  -- the comparisons with the number rise along the index, as a binary search asks
  comparisons_rise : IsNonDecreasingBy (λ entry. ordering_index (nat_cmp entry.0 number)) index
  comparisons_rise = IsNonDecreasingBy-from_default (λ entry. ordering_index (nat_cmp entry.0 number)) index (0, 0) (λ i j le in_range.
      let numbers_rise : number_at index i ≤ number_at index j = grind (arith, rises i j, λ (same : i ≡ j). ap (number_at index) same) in
      grind (arith, nat_tests))

  -- a binary search ends at the number's entry, or where it would go
  pub searched : (r : Result ℕ ℕ) → IsSearchInRange r (length index) → IsBinarySearchResult (λ entry. nat_cmp entry.0 number) index r → record { found : IfOk r (IsEntryOfNumber index number); absent : IfErr r (IsGapFor index number) }
  searched (Ok at) in_range equal = record { found = record { in_range = in_range; has_number = ranked _ number _ (sym (equal (0, 0))) }; absent = tt }
  searched (Err at) in_range parted = record {
    found = tt;
    absent = record {
      in_range = in_range;
      smaller_before = λ j lt. ranked _ number _ (sym ((parted comparisons_rise).0 j (0, 0) (omega arith) lt));
      greater_after = λ j le lt. ranked _ number _ (sym ((parted comparisons_rise).1 j (0, 0) le lt));
    };
  }

module _ (ns : List ℕ) (index : Index) (is : IsIndex ns index) (number at : ℕ) (found : IsEntryOfNumber index number at) where
  -- the entry's place is the number's
  pub place_inside : place_at index at < length ns
  place_inside = (is.points at found.in_range).0

  pub place_is : get_or ns (place_at index at) 0 ≡ number
  place_is = (is.points at found.in_range).1 ∙ found.has_number

  -- and no other place is
  pub only_place : (p : ℕ) → p < length ns → get_or ns p 0 ≡ number → p ≡ place_at index at
  only_place p lt same = elim (cases_eq p (place_at index at)) [
    | inl is_it ↦ is_it
    | inr other ↦ absurd (is.whole p lt (λ i inside there.
        let number_is : number_at index i ≡ number = sym (is.points i inside).1 ∙ ap (λ (q : ℕ). get_or ns q 0) there ∙ same in
        let here : i ≡ at = grind (arith, is.rises i at, is.rises at i, inside, found.in_range, found.has_number) in
        other (sym there ∙ ap (place_at index) here)))
  ]

-- a number that has a gap stands in no place
pub in_no_place : (ns : List ℕ) (index : Index) → IsIndex ns index → (number at : ℕ) → IsGapFor index number at → (p : ℕ) → p < length ns → get_or ns p 0 ≢ number
in_no_place ns index is number at gap p lt same = is.whole p lt (λ i inside there.
    let number_is : number_at index i ≡ number = sym (is.points i inside).1 ∙ ap (λ (q : ℕ). get_or ns q 0) there ∙ same in
    elim (cases_lt i at) [
      | inl below ↦ omega (arith, gap.smaller_before i below)
      | inr above ↦ omega (arith, gap.greater_after i above inside)
    ])

-- a number more, and its entry in the gap
module _ (ns : List ℕ) (index : Index) (is : IsIndex ns index) (number at : ℕ) (gap : IsGapFor index number at) where
  abbrev new_entry : ℕ × ℕ
  new_entry = (number, length ns)

  abbrev new_index : Index
  new_index = insert index at new_entry

  abbrev new_numbers : List ℕ
  new_numbers = ns ++ number ∷ []

  longer : length new_index ≡ length index + 1
  longer = length-insert index at new_entry gap.in_range

  one_more : length new_numbers ≡ length ns + 1
  one_more = length_push ns number

  below : (i : ℕ) → i < at → get_or new_index i (0, 0) ≡ get_or index i (0, 0)
  below i lt = get_or-insert_below index at new_entry (0, 0) i lt gap.in_range

  here : (i : ℕ) → i ≡ at → get_or new_index i (0, 0) ≡ new_entry
  here i same = ap (λ (k : ℕ). get_or new_index k (0, 0)) same ∙ get_or-insert_at index at new_entry (0, 0) gap.in_range

  above : (j : ℕ) → at ≤ j → get_or new_index (j + 1) (0, 0) ≡ get_or index j (0, 0)
  above j le = get_or-insert_above index at new_entry (0, 0) j le gap.in_range

  -- the entry that stands at i now is the new one, or an old one
  abbrev Stood : ℕ → Type 0
  Stood i = ((i ≡ at) × (get_or new_index i (0, 0) ≡ new_entry)) ⊎ ((j : ℕ) × (j < length index) × (get_or new_index i (0, 0) ≡ get_or index j (0, 0)))

  stood : (i : ℕ) → i < length new_index → Stood i
  stood i lt = elim (cases_lt i at) [
    | inl less ↦ inr (i, omega (arith, gap.in_range), below i less)
    | inr le ↦ elim (cases_eq i at) [
      | inl same ↦ inl (same, here i same)
      | inr other ↦
          let j = i - 1 in
          let next : i ≡ j + 1 = omega arith in
          let at_j : at ≤ j = omega arith in
          let inside : j < length index = omega (arith, longer) in
          inr (j, inside, ap (λ (k : ℕ). get_or new_index k (0, 0)) next ∙ above j at_j)
    ]
  ]

  old_number : (p : ℕ) → p < length ns → get_or new_numbers p 0 ≡ get_or ns p 0
  old_number p lt = get_or_append_left ns (number ∷ []) 0 p lt

  new_number : get_or new_numbers (length ns) 0 ≡ number
  new_number = get_or_push ns number 0 (length ns) refl

  rises_still : Rises new_index
  rises_still i j lt in_range =
      let first = λ (e : ℕ × ℕ). e.0 in
      let key_below : (i : ℕ) → i < at → number_at new_index i ≡ number_at index i = λ i less. ap first (below i less) in
      let key_here : (i : ℕ) → i ≡ at → number_at new_index i ≡ number = λ i same. ap first (here i same) in
      let key_above : (i : ℕ) → at < i → number_at new_index i ≡ number_at index (i - 1) = λ i more. subst (λ q. number_at new_index q ≡ number_at index (i - 1)) {x = i - 1 + 1} (omega arith) (ap first (above (i - 1) (omega arith))) in
      grind (arith, longer, key_below i, key_here i, key_above i, key_below j, key_here j, key_above j, is.rises i j, is.rises i (j - 1), is.rises (i - 1) (j - 1), gap.smaller_before i, gap.greater_after (j - 1))

  points_still : (i : ℕ) → i < length new_index → (place_at new_index i < length new_numbers) × (get_or new_numbers (place_at new_index i) 0 ≡ number_at new_index i)
  points_still i lt = elim (stood i lt) [
    | inl (same, entry) ↦
        let place : place_at new_index i ≡ length ns = ap (λ (e : ℕ × ℕ). e.1) entry in
        (omega (arith, place, one_more), ap (λ (q : ℕ). get_or new_numbers q 0) place ∙ new_number ∙ sym (ap (λ (e : ℕ × ℕ). e.0) entry))
    | inr (j, inside, entry) ↦
        let place : place_at new_index i ≡ place_at index j = ap (λ (e : ℕ × ℕ). e.1) entry in
        let old = is.points j inside in
        (omega (arith, place, one_more, old.0), ap (λ (q : ℕ). get_or new_numbers q 0) place ∙ old_number (place_at index j) old.0 ∙ old.1 ∙ sym (ap (λ (e : ℕ × ℕ). e.0) entry))
  ]

  whole_still : (p : ℕ) → p < length new_numbers → ((i : ℕ) → i < length new_index → place_at new_index i ≢ p) → ⊥
  whole_still p lt none = elim (cases_eq p (length ns)) [
    | inl same ↦ none at (omega (arith, longer, gap.in_range)) (ap (λ (e : ℕ × ℕ). e.1) (here at refl) ∙ sym same)
    | inr other ↦ is.whole p (omega (arith, one_more)) (λ i inside there. elim (cases_lt i at) [
      | inl less ↦ none i (omega (arith, longer, inside)) (ap (λ (e : ℕ × ℕ). e.1) (below i less) ∙ there)
      | inr le ↦ none (i + 1) (omega (arith, longer, inside)) (ap (λ (e : ℕ × ℕ). e.1) (above i le) ∙ there)
    ])
  ]

  pub index_more : IsIndex (ns ++ number ∷ []) (insert index at (number, length ns))
  index_more = record {
    rises = rises_still;
    same_length = omega (arith, longer, one_more, is.same_length);
    points = points_still;
    whole = whole_still;
  }
