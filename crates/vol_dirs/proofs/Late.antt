-- Serials in a long list and a late one, and what one more or less does to both.
use Rattle.std.proofs.Common.{◌≡◌, inl, inr, ℕ, ◌-◌, ◌≤◌, Bool, true, false, List, ◌∷◌, ◌++◌, length, set, refl, sym, ◌∙◌, ap₂, subst, arith}
use Rattle.std.specs.List.{Contains, insert}
use Rattle.std.specs.List.Sorted.{IsPermutation}
use Rattle.std.specs.Cmp.{IsTotalOrder}
use Rattle.std.specs.declared.cmp.Ordering.{Ordering}
use Rattle.std.specs.declared.cmp.Ordering.TheVariants.{Less, Equal, Greater}
use Rattle.std.proofs.lemmas.List.{map-append}
use Rattle.std.proofs.lemmas.List.Elements.{Contains-append_left, Contains-append_right, Contains-append_cases}
use Rattle.std.proofs.lemmas.List.Sorted.{IsPermutation-insert, IsPermutation-map, IsPermutation-sym, IsPermutation-trans, IsPermutation-append_left, IsPermutation-append_right, IsPermutation-middle, Contains-permutation}
use Rattle.vol_dirs.specs.internal.Rising.{Rises, IsFirstOver, IsLesser, IsLeastOver, NoneIsOver, AreApart, AddsItem, Drops}
use Rattle.vol_dirs.specs.internal.Listing.{key_order}
use Rattle.vol_dirs.specs.Serials.{key_at, keys_in, AreSerials, IsAbsentIn}
use Rattle.vol_dirs.proofs.Orders.{key_total, key_ties}
use Rattle.vol_dirs.proofs.Search.{less_back}
use Rattle.vol_dirs.proofs.Edits.{insert_rises}
use Rattle.vol_dirs.proofs.Apart.{adds_by, drops_by, front_apart, rest_apart, not_again, moved_apart}
use Rattle.vol_dirs.proofs.Places.{as_many, same_keys, own_key, inserted, in_gap, held_at, serials_joined}

pub adds_moved : {X : Type 0} (xs ys zs : List X) (x : X) → IsPermutation xs ys → AddsItem ys zs x → AddsItem xs zs x
adds_moved xs ys zs x moved adds = record {
  kept = λ y has. adds.kept y (Contains-permutation xs ys y moved has);
  there = adds.there;
  only = λ y has. elim (adds.only y has) [
    | inl old ↦ inl (Contains-permutation ys xs y (IsPermutation-sym xs ys moved) old)
    | inr this ↦ inr this
  ];
}

-- ---- a serial more

module _ (names : List (List ℕ)) (long late : List ℕ) (long_serials : AreSerials (length names) long) (late_serials : AreSerials (length names) late) (apart : AreApart (long ++ late)) (key : List ℕ) (s : ℕ) (first : 1 ≤ s) (last : s ≤ length names) (absent : IsAbsentIn s (long ++ late)) where
  abbrev changed : List (List ℕ)
  changed = set names (s - 1) key

  not_long : IsAbsentIn s long
  not_long has = absent (Contains-append_left long late s has)

  not_late : IsAbsentIn s late
  not_late has = absent (Contains-append_right long late s has)

  more : (at : ℕ) → IsPermutation (s ∷ (long ++ late)) (long ++ insert late at s)
  more at = IsPermutation-trans (s ∷ (long ++ late)) (long ++ s ∷ late) (long ++ insert late at s)
      (IsPermutation-sym (long ++ s ∷ late) (s ∷ (long ++ late)) (IsPermutation-middle long s late))
      (IsPermutation-append_right long (s ∷ late) (insert late at s) (IsPermutation-insert late at s))

  pub more_apart : (at : ℕ) → AreApart (long ++ insert late at s)
  more_apart at = moved_apart (s ∷ (long ++ late)) (long ++ insert late at s) (more at) (front_apart (long ++ late) s apart absent)

  both_serials : AreSerials (length names) (long ++ late)
  both_serials = serials_joined (length names) long late long_serials late_serials

  pub more_keys : (at : ℕ) → AddsItem (keys_in names (long ++ late)) (keys_in changed (long ++ insert late at s)) (key, s)
  more_keys at =
      let moved = IsPermutation-map (key_at changed) (s ∷ (long ++ late)) (long ++ insert late at s) (more at) in
      let own = subst (λ (x : List ℕ × ℕ). IsPermutation (x ∷ keys_in changed (long ++ late)) (keys_in changed (long ++ insert late at s))) (own_key names (long ++ late) both_serials key s first last absent) moved in
      let old = subst (λ (l : List (List ℕ × ℕ)). IsPermutation ((key, s) ∷ l) (keys_in changed (long ++ insert late at s))) (same_keys names (long ++ late) both_serials key s first last absent) own in
      adds_by (keys_in names (long ++ late)) (keys_in changed (long ++ insert late at s)) (key, s) old

  pub long_stays : Rises key_order (keys_in names long) → Rises key_order (keys_in changed long)
  long_stays rises = subst (λ (l : List (List ℕ × ℕ)). Rises key_order l) (sym (same_keys names long long_serials key s first last not_long)) rises

  pub late_rises : Rises key_order (keys_in names late) → (at : ℕ) → at ≤ length late → IsFirstOver key_order (keys_in names late) (key, s) at → Rises key_order (keys_in changed (insert late at s))
  late_rises rises at within found = subst (λ (l : List (List ℕ × ℕ)). Rises key_order l) (sym (inserted names late late_serials key s first last not_late at))
      (insert_rises key_total key_ties (keys_in names late) rises (key, s) at (omega (arith, within, as_many names late)) (in_gap names late late_serials key s first last not_late at within found))

-- ---- a serial less

module _ (names : List (List ℕ)) (old rest : List ℕ) (s : ℕ) (moved : IsPermutation old (s ∷ rest)) (apart : AreApart old) where
  front : AreApart (s ∷ rest)
  front = moved_apart old (s ∷ rest) moved apart

  pub less_apart : AreApart rest
  less_apart = rest_apart rest s front

  pub less_keys : Drops (keys_in names old) (keys_in names rest) (key_at names s)
  less_keys = drops_by (keys_in names old) (keys_in names rest) (key_at names s) (IsPermutation-map (key_at names) old (s ∷ rest) moved) (λ has. not_again rest s front (held_at names rest (let x = key_at names s in x.0) s has))

pub late_less : (long late rest : List ℕ) (s : ℕ) → IsPermutation late (s ∷ rest) → IsPermutation (long ++ late) (s ∷ (long ++ rest))
late_less long late rest s moved = IsPermutation-trans (long ++ late) (long ++ s ∷ rest) (s ∷ (long ++ rest)) (IsPermutation-append_right long late (s ∷ rest) moved) (IsPermutation-middle long s rest)

pub long_less : (long late rest : List ℕ) (s : ℕ) → IsPermutation long (s ∷ rest) → IsPermutation (long ++ late) (s ∷ (rest ++ late))
long_less long late rest s moved = IsPermutation-append_left late long (s ∷ rest) moved

-- ---- the least of both

module _ {X : Type 0} (order : X → X → Ordering) (xs ys : List X) (bound : X) where
  pub none_in_both : NoneIsOver order xs bound → NoneIsOver order ys bound → NoneIsOver order (xs ++ ys) bound
  none_in_both first second y has over = elim (Contains-append_cases xs ys y has) [
    | inl one ↦ first y one over
    | inr other ↦ second y other over
  ]

  pub least_first : (x : X) → IsLeastOver order xs bound x → NoneIsOver order ys bound → IsLeastOver order (xs ++ ys) bound x
  least_first x least none = record {
    there = Contains-append_left xs ys x least.there;
    over = least.over;
    least = λ y has over less. elim (Contains-append_cases xs ys y has) [
      | inl one ↦ least.least y one over less
      | inr other ↦ none y other over
    ];
  }

  pub least_second : (x : X) → NoneIsOver order xs bound → IsLeastOver order ys bound x → IsLeastOver order (xs ++ ys) bound x
  least_second x none least = record {
    there = Contains-append_right xs ys x least.there;
    over = least.over;
    least = λ y has over less. elim (Contains-append_cases xs ys y has) [
      | inl one ↦ none y one over
      | inr other ↦ least.least y other over less
    ];
  }

  -- where neither is over the other they are the same
  pub least_of_both : IsTotalOrder order → (x z : X) → IsLeastOver order xs bound x → IsLeastOver order ys bound z → order x z ≡ Less → IsLeastOver order (xs ++ ys) bound x
  least_of_both o x z one other lesser = record {
    there = Contains-append_left xs ys x one.there;
    over = one.over;
    least = λ y has over less. elim (Contains-append_cases xs ys y has) [
      | inl here ↦ one.least y here over less
      | inr there ↦ other.least y there over (o.trans y x z less lesser)
    ];
  }

  pub other_of_both : IsTotalOrder order → (x z : X) → IsLeastOver order xs bound x → IsLeastOver order ys bound z → (order x z ≡ Less → ⊥) → IsLeastOver order (xs ++ ys) bound z
  other_of_both o x z one other never = record {
    there = Contains-append_right xs ys z other.there;
    over = other.over;
    least = λ y has over less. elim (Contains-append_cases xs ys y has) [
      | inl here ↦ through y here over less (order y x) refl
      | inr there ↦ other.least y there over less
    ];
  }
    where
      through : (y : X) → Contains xs y → order bound y ≡ Less → order y z ≡ Less → (r : Ordering) → order y x ≡ r → ⊥
      through y here over less Less is = one.least y here over is
      through y here over less Equal is = never (sym (o.congr y x z is) ∙ less)
      through y here over less Greater is = never (o.trans x y z (less_back o y x is) less)

-- ---- the same serials in other lists

pub moved_keys : (names now : List (List ℕ)) (old new : List ℕ) → now ≡ names → IsPermutation old new → IsPermutation (keys_in names old) (keys_in now new)
moved_keys names now old new same moved = subst (λ (l : List (List ℕ)). IsPermutation (keys_in names old) (keys_in l new)) (sym same) (IsPermutation-map (key_at names) old new moved)

pub absent_moved : (old new : List ℕ) (s : ℕ) → IsPermutation old new → IsAbsentIn s old → IsAbsentIn s new
absent_moved old new s moved absent has = absent (Contains-permutation new old s (IsPermutation-sym old new moved) has)

pub absent_same : (long late other_long other_late : List ℕ) (s : ℕ) → other_long ≡ long → other_late ≡ late → IsAbsentIn s (long ++ late) → IsAbsentIn s (other_long ++ other_late)
absent_same long late other_long other_late s first second absent has = absent (subst (λ (l : List ℕ). Contains l s) (ap₂ (λ (p q : List ℕ). p ++ q) first second) has)

-- ---- keys of both lists

module _ (names : List (List ℕ)) (long late : List ℕ) (bound : List ℕ × ℕ) where
  joined : keys_in names (long ++ late) ≡ keys_in names long ++ keys_in names late
  joined = map-append (key_at names) long late

  pub none_found : NoneIsOver key_order (keys_in names long) bound → NoneIsOver key_order (keys_in names late) bound → NoneIsOver key_order (keys_in names (long ++ late)) bound
  none_found first second = subst (λ (l : List (List ℕ × ℕ)). NoneIsOver key_order l bound) (sym joined) (none_in_both key_order (keys_in names long) (keys_in names late) bound first second)

  pub long_found : (s : ℕ) → IsLeastOver key_order (keys_in names long) bound (key_at names s) → NoneIsOver key_order (keys_in names late) bound → IsLeastOver key_order (keys_in names (long ++ late)) bound (key_at names s)
  long_found s least none = subst (λ (l : List (List ℕ × ℕ)). IsLeastOver key_order l bound (key_at names s)) (sym joined) (least_first key_order (keys_in names long) (keys_in names late) bound (key_at names s) least none)

  pub late_found : (s : ℕ) → NoneIsOver key_order (keys_in names long) bound → IsLeastOver key_order (keys_in names late) bound (key_at names s) → IsLeastOver key_order (keys_in names (long ++ late)) bound (key_at names s)
  late_found s none least = subst (λ (l : List (List ℕ × ℕ)). IsLeastOver key_order l bound (key_at names s)) (sym joined) (least_second key_order (keys_in names long) (keys_in names late) bound (key_at names s) none least)

  pub lesser_found : (one other lesser : ℕ) → IsLesser key_order (key_at names) one other lesser → IsLeastOver key_order (keys_in names long) bound (key_at names one) → IsLeastOver key_order (keys_in names late) bound (key_at names other)
      → IsLeastOver key_order (keys_in names (long ++ late)) bound (key_at names lesser)
  lesser_found one other lesser is first second = subst (λ (l : List (List ℕ × ℕ)). IsLeastOver key_order l bound (key_at names lesser)) (sym joined) (elim is [
    | inl (same, less) ↦ subst (λ (s : ℕ). IsLeastOver key_order (keys_in names long ++ keys_in names late) bound (key_at names s)) (sym same) (least_of_both key_order (keys_in names long) (keys_in names late) bound key_total (key_at names one) (key_at names other) first second less)
    | inr (same, never) ↦ subst (λ (s : ℕ). IsLeastOver key_order (keys_in names long ++ keys_in names late) bound (key_at names s)) (sym same) (other_of_both key_order (keys_in names long) (keys_in names late) bound key_total (key_at names one) (key_at names other) first second never)
  ])

pub lesser_held : (item : ℕ → List ℕ × ℕ) (serials : List ℕ) (one other lesser : ℕ) → IsLesser key_order item one other lesser → Contains serials one → Contains serials other → Contains serials lesser
lesser_held item serials one other lesser is first second = elim is [
  | inl (same, less) ↦ subst (λ (s : ℕ). Contains serials s) (sym same) first
  | inr (same, never) ↦ subst (λ (s : ℕ). Contains serials s) (sym same) second
]

-- what the second of two lists didn't have, the first had
pub taken_first : (long late : List ℕ) (s : ℕ) (rest : List ℕ) (r : Bool) → Contains (long ++ late) s → IsAbsentIn s late → (r ≡ true → IsPermutation long (s ∷ rest)) → (r ≡ false → IsAbsentIn s long) → IsPermutation long (s ∷ rest)
taken_first long late s rest true held absent taken none = taken refl
taken_first long late s rest false held absent taken none = elim (Contains-append_cases long late s held) [
  | inl here ↦ absurd (none refl here)
  | inr there ↦ absurd (absent there)
]
