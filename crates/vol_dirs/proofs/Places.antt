-- Keys by their serials: what a search among them finds, and what one more or less does.
use Rattle.std.proofs.Common.{◌≡◌, ◌≢◌, ◌⊎◌, inl, inr, ℕ, zero, suc, ◌+◌, ◌-◌, ◌≤◌, ◌<◌, true, false, List, [], ◌∷◌, ◌++◌, length, take, drop, map, set, get_or, refl, sym, ◌∙◌, ap, ap₂, subst, arith}
use Rattle.std.specs.List.{Contains, insert, remove}
use Rattle.std.specs.List.Sorted.{IsPartitionPoint, IsPermutation}
use Rattle.std.specs.Cmp.{IsTotalOrder}
use Rattle.std.specs.Ordering.{is_lt}
use Rattle.std.specs.declared.cmp.Ordering.{Ordering}
use Rattle.std.specs.declared.cmp.Ordering.TheVariants.{Less, Equal, Greater}
use Rattle.std.proofs.lemmas.Bool.{cases_lt, cases_eq}
use Rattle.std.proofs.lemmas.List.Edits.{get_or-remove_below, get_or-remove_above, length-remove}
use Rattle.std.proofs.lemmas.List.Elements.{Contains-get_or, Contains-append_cases, Contains-push_cases}
use Rattle.std.proofs.lemmas.List.Sorted.{IsPermutation-sym, Contains-permutation}
use Rattle.std.proofs.lemmas.List.{length-map, get_or-map, get_or_default, get_or-set_same, get_or-set_other, map-append, take-map, drop-map, ext_get_or}
use Rattle.vol_dirs.specs.internal.Rising.{Rises, IsFirstOver}
use Rattle.vol_dirs.specs.internal.Listing.{key_order}
use Rattle.vol_dirs.specs.Serials.{key_at, keys_in, AreSerials, IsAbsentIn}
use Rattle.vol_dirs.proofs.Orders.{key_ties}
use Rattle.vol_dirs.proofs.Search.{greater_back, less_back, not_itself}
use Rattle.vol_dirs.proofs.Orders.{key_total}

pub less_is : (o : Ordering) → is_lt o ≡ true → o ≡ Less
less_is Less is = refl
less_is Equal is = cc
less_is Greater is = cc

pub less_not : (o : Ordering) → is_lt o ≡ false → o ≡ Less → ⊥
less_not o is less = let both : is_lt o ≡ true = ap is_lt less in cc

module _ {X : Type 0} {order : X → X → Ordering} (o : IsTotalOrder order) (xs : List X) (rises : Rises order xs) (bound : X) (middle : ℕ) (e : X) (inside : middle < length xs) where
  pub over_after : order bound (get_or xs middle e) ≡ Less → (k : ℕ) (d : X) → middle ≤ k → k < length xs → order bound (get_or xs k d) ≡ Less
  over_after less k d le lt =
      let here : order bound (get_or xs middle d) ≡ Less = ap (order bound) (get_or_default xs middle d e inside) ∙ less in
      elim (cases_eq k middle) [
        | inl same ↦ ap (λ (q : ℕ). order bound (get_or xs q d)) same ∙ here
        | inr other ↦ o.trans bound (get_or xs middle d) (get_or xs k d) here (rises middle k d (omega arith) lt)
      ]

  pub none_before : (order bound (get_or xs middle e) ≡ Less → ⊥) → (k : ℕ) (d : X) → k < middle + 1 → order bound (get_or xs k d) ≡ Less → ⊥
  none_before never k d lt less =
      let here : order bound (get_or xs middle e) ≡ order bound (get_or xs middle d) = ap (order bound) (get_or_default xs middle e d inside) in
      elim (cases_eq k middle) [
        | inl same ↦ never (here ∙ (ap (λ (q : ℕ). order bound (get_or xs q d)) (sym same) ∙ less))
        | inr other ↦ never (here ∙ o.trans bound (get_or xs k d) (get_or xs middle d) less (rises k middle d (omega arith) inside))
      ]

module _ (names : List (List ℕ)) (order : List ℕ) where
  pub as_many : length (keys_in names order) ≡ length order
  as_many = length-map order (key_at names)

  pub key_there : (at : ℕ) (d : List ℕ × ℕ) → at < length order → get_or (keys_in names order) at d ≡ key_at names (get_or order at 0)
  key_there at d lt = get_or-map (key_at names) order at 0 d lt

pub map_insert : {X Y : Type 0} (f : X → Y) (xs : List X) (at : ℕ) (x : X) → map f (insert xs at x) ≡ insert (map f xs) at (f x)
map_insert f xs at x = map-append f (take at xs) (x ∷ drop at xs) ∙ ap₂ (λ p q. p ++ f x ∷ q) (sym (take-map f at xs)) (sym (drop-map f at xs))

module _ (names : List (List ℕ)) (order : List ℕ) (serials : AreSerials (length names) order) (key : List ℕ) (serial : ℕ) (first : 1 ≤ serial) (last : serial ≤ length names) (absent : IsAbsentIn serial order) where
  abbrev changed : List (List ℕ)
  changed = set names (serial - 1) key

  -- the keys that are held don't change where a serial that isn't held gets a key
  pub same_keys : keys_in changed order ≡ keys_in names order
  same_keys = ext_get_or ([], 0) (keys_in changed order) (keys_in names order) (as_many changed order ∙ sym (as_many names order)) (λ k lt.
      let inside : k < length order = omega (arith, as_many changed order) in
      let s = get_or order k 0 in
      let other : s - 1 ≢ serial - 1 = λ is.
      let same : s ≡ serial = omega (arith, serials k inside) in
      absent (subst (λ (q : ℕ). Contains order q) same (Contains-get_or order k 0 inside)) in
      key_there changed order k ([], 0) inside ∙ ap (λ (name : List ℕ). (name, s)) (get_or-set_other names (serial - 1) (s - 1) key [] other) ∙ sym (key_there names order k ([], 0) inside))

  pub own_key : key_at changed serial ≡ (key, serial)
  own_key = ap (λ (name : List ℕ). (name, serial)) (get_or-set_same names (serial - 1) key [] (omega arith))

  pub inserted : (at : ℕ) → keys_in changed (insert order at serial) ≡ insert (keys_in names order) at (key, serial)
  inserted at = map_insert (key_at changed) order at serial ∙ ap₂ (λ (xs : List (List ℕ × ℕ)) (x : List ℕ × ℕ). insert xs at x) same_keys own_key

  -- no key that is held ties with the new one
  apart : (k : ℕ) (d : List ℕ × ℕ) → k < length order → key_order (key, serial) (get_or (keys_in names order) k d) ≡ Equal → ⊥
  apart k d lt tied =
      let same : (key, serial) ≡ get_or (keys_in names order) k d = key_ties (key, serial) (get_or (keys_in names order) k d) tied in
      let is : serial ≡ get_or order k 0 = ap (λ (x : List ℕ × ℕ). x.1) (same ∙ key_there names order k d lt) in
      absent (subst (λ (q : ℕ). Contains order q) (sym is) (Contains-get_or order k 0 lt))

  pub in_gap : (at : ℕ) → at ≤ length order → IsFirstOver key_order (keys_in names order) (key, serial) at
      → IsPartitionPoint (λ y. key_order y (key, serial) ≡ Less) (λ y. key_order y (key, serial) ≡ Greater) (keys_in names order) at
  in_gap at within found = (
    (λ k d from below. before k d (omega arith) (found.before k d below)),
    (λ k d le lt. greater_back key_total (key, serial) (get_or (keys_in names order) k d) (found.from k d le lt)),
  )
    where
      order_cases : (k : ℕ) (d : List ℕ × ℕ) (o : Ordering) → key_order (key, serial) (get_or (keys_in names order) k d) ≡ o → (o ≡ Less → ⊥) → (o ≡ Equal → ⊥) → key_order (get_or (keys_in names order) k d) (key, serial) ≡ Less
      order_cases k d Less is not_less not_tied = absurd (not_less refl)
      order_cases k d Equal is not_less not_tied = absurd (not_tied refl)
      order_cases k d Greater is not_less not_tied = less_back key_total (key, serial) (get_or (keys_in names order) k d) is

      before : (k : ℕ) (d : List ℕ × ℕ) → k < length order → (key_order (key, serial) (get_or (keys_in names order) k d) ≡ Less → ⊥) → key_order (get_or (keys_in names order) k d) (key, serial) ≡ Less
      before k d lt not_less = order_cases k d _ refl not_less (apart k d lt)

map_remove : {X Y : Type 0} (f : X → Y) (xs : List X) (at : ℕ) → map f (remove xs at) ≡ remove (map f xs) at
map_remove f xs at = map-append f (take at xs) (drop (suc at) xs) ∙ ap₂ (λ p q. p ++ q) (sym (take-map f at xs)) (sym (drop-map f (suc at) xs))

module _ (names : List (List ℕ)) (order : List ℕ) (rises : Rises key_order (keys_in names order)) (serial over : ℕ) (within : over ≤ length order) (found : IsFirstOver key_order (keys_in names order) (key_at names serial) over) where
  abbrev x : List ℕ × ℕ
  x = key_at names serial

  key_here : (k : ℕ) (d : List ℕ × ℕ) → k < length order → get_or order k 0 ≡ serial → get_or (keys_in names order) k d ≡ x
  key_here k d lt is = key_there names order k d lt ∙ ap (key_at names) is

  -- a serial that is held stands just before the first key over its own
  pub stands_before : (k : ℕ) → k < length order → get_or order k 0 ≡ serial → k + 1 ≡ over
  stands_before k lt is =
      let here : get_or (keys_in names order) k x ≡ x = key_here k x lt is in
      elim (cases_lt k over) [
        | inl below ↦ elim (cases_eq (k + 1) over) [
          | inl same ↦ same
          | inr other ↦ absurd (found.before (k + 1) x (omega arith) (ap (λ (y : List ℕ × ℕ). key_order y (get_or (keys_in names order) (k + 1) x)) (sym here) ∙ rises k (k + 1) x (omega arith) (omega (arith, as_many names order))))
        ]
        | inr le ↦ absurd (not_itself key_total x (get_or (keys_in names order) k x) (sym here) (found.from k x le (omega (arith, as_many names order))))
      ]

pub remove_rises : {X : Type 0} (order : X → X → Ordering) (xs : List X) → Rises order xs → (at : ℕ) → at < length xs → Rises order (remove xs at)
remove_rises {X} order xs rises at there i j d lt inside =
    let shorter : length (remove xs at) + 1 ≡ length xs = length-remove xs at there in
    elim (cases_lt j at) [
      | inl below ↦ less _ _ (get_or xs i d) (get_or xs j d) (get_or-remove_below xs at d i (omega arith) there) (get_or-remove_below xs at d j below there) (rises i j d lt (omega arith))
      | inr past ↦ elim (cases_lt i at) [
        | inl below ↦ less _ _ (get_or xs i d) (get_or xs (j + 1) d) (get_or-remove_below xs at d i below there) (get_or-remove_above xs at d j past there) (rises i (j + 1) d (omega arith) (omega arith))
        | inr over ↦ less _ _ (get_or xs (i + 1) d) (get_or xs (j + 1) d) (get_or-remove_above xs at d i over there) (get_or-remove_above xs at d j past there) (rises (i + 1) (j + 1) d (omega arith) (omega arith))
      ]
    ]
  where
    less : (a b c e : X) → a ≡ c → b ≡ e → order c e ≡ Less → order a b ≡ Less
    less a b c e first second is = cc

pub removed_rises : (names : List (List ℕ)) (order : List ℕ) → Rises key_order (keys_in names order) → (k : ℕ) → k < length order → Rises key_order (keys_in names (remove order k))
removed_rises names order rises k lt = subst (λ (xs : List (List ℕ × ℕ)). Rises key_order xs) (sym (map_remove (key_at names) order k)) (remove_rises key_order (keys_in names order) rises k (omega (arith, as_many names order)))

-- what was found for the key of a serial
pub found_for : (names : List (List ℕ)) (order : List ℕ) (serial over : ℕ) (key : List ℕ) → serial - 1 < length names → key ≡ get_or names (serial - 1) key → IsFirstOver key_order (keys_in names order) (key, serial) over → IsFirstOver key_order (keys_in names order) (key_at names serial) over
found_for names order serial over key lt is found = subst (λ (k : List ℕ). IsFirstOver key_order (keys_in names order) (k, serial) over) (is ∙ get_or_default names (serial - 1) key [] lt) found

-- ---- places for more keys

-- keys stay where the names only get longer
pub lengthened : (names longer : List (List ℕ)) (order : List ℕ) → AreSerials (length names) order → ((k : ℕ) → k < length names → get_or longer k [] ≡ get_or names k []) → keys_in longer order ≡ keys_in names order
lengthened names longer order serials kept = ext_get_or ([], 0) (keys_in longer order) (keys_in names order) (as_many longer order ∙ sym (as_many names order)) (λ k lt.
    let inside : k < length order = omega (arith, as_many longer order) in
    let s = get_or order k 0 in
    key_there longer order k ([], 0) inside ∙ ap (λ (name : List ℕ). (name, s)) (kept (s - 1) (omega (arith, serials k inside))) ∙ sym (key_there names order k ([], 0) inside))

-- ---- keys and serials

-- a key that is held has its serial in the list
pub held_at : (names : List (List ℕ)) (order : List ℕ) (key : List ℕ) (s : ℕ) → Contains (keys_in names order) (key, s) → Contains order s
held_at names order key s has =
    let inside : has.0 < length order = omega (arith, has.1, as_many names order) in
    (has.0, inside, get_or_default order has.0 s 0 inside ∙ ap (λ (x : List ℕ × ℕ). x.1) (sym (key_there names order has.0 (key, s) inside) ∙ has.2))

-- and a serial in the list has its key held
pub key_held : (names : List (List ℕ)) (order : List ℕ) (s : ℕ) → Contains order s → Contains (keys_in names order) (key_at names s)
key_held names order s has =
    let is : get_or order has.0 0 ≡ s = get_or_default order has.0 0 s has.1 ∙ has.2 in
    (has.0, omega (arith, has.1, as_many names order), key_there names order has.0 (key_at names s) has.1 ∙ ap (key_at names) is)

-- ---- lists of serials

-- a serial is in a list, or it isn't
pub held_or_not : (order : List ℕ) (s : ℕ) → Contains order s ⊎ (Contains order s → ⊥)
held_or_not [] s = inr (λ has. omega (arith, has.1))
held_or_not (x ∷ order) s = elim (cases_eq x s) [
  | inl same ↦ inl (0, omega arith, same)
  | inr differ ↦ elim (held_or_not order s) [
    | inl there ↦ inl (suc there.0, omega (arith, there.1), there.2)
    | inr absent ↦ inr (λ has. elim (Contains-append_cases (x ∷ []) order s has) [
      | inl first ↦ elim (Contains-push_cases [] x s first) [
        | inl none ↦ omega (arith, none.1)
        | inr same ↦ differ same
      ]
      | inr rest ↦ absent rest
    ])
  ]
]

pub serial_in : (slots : ℕ) (order : List ℕ) (s : ℕ) → AreSerials slots order → Contains order s → (1 ≤ s) × (s ≤ slots)
serial_in slots order s serials has =
    let is : get_or order has.0 0 ≡ s = get_or_default order has.0 0 s has.1 ∙ has.2 in
    let bounds = serials has.0 has.1 in
    (omega (arith, bounds.0, is), omega (arith, bounds.1, is))

pub serials_by : (slots : ℕ) (order : List ℕ) → ((s : ℕ) → Contains order s → (1 ≤ s) × (s ≤ slots)) → AreSerials slots order
serials_by slots order each k lt = each (get_or order k 0) (Contains-get_or order k 0 lt)

pub serials_joined : (slots : ℕ) (one other : List ℕ) → AreSerials slots one → AreSerials slots other → AreSerials slots (one ++ other)
serials_joined slots one other first second = serials_by slots (one ++ other) (λ s has. elim (Contains-append_cases one other s has) [
  | inl early ↦ serial_in slots one s first early
  | inr late ↦ serial_in slots other s second late
])

pub more_serials : (slots more : ℕ) (order : List ℕ) → slots ≤ more → AreSerials slots order → AreSerials more order
more_serials slots more order le serials k lt = let bounds = serials k lt in (bounds.0, omega (arith, bounds.1))

pub serials_moved : (slots : ℕ) (old new : List ℕ) → IsPermutation old new → AreSerials slots old → AreSerials slots new
serials_moved slots old new moved serials = serials_by slots new (λ s has. serial_in slots old s serials (Contains-permutation new old s (IsPermutation-sym old new moved) has))

pub serials_front : (slots : ℕ) (order : List ℕ) (s : ℕ) → 1 ≤ s → s ≤ slots → AreSerials slots order → AreSerials slots (s ∷ order)
serials_front slots order s first last serials zero lt = (first, last)
serials_front slots order s first last serials (suc k) lt = serials k (omega arith)

pub serials_rest : (slots : ℕ) (order : List ℕ) (s : ℕ) → AreSerials slots (s ∷ order) → AreSerials slots order
serials_rest slots order s serials k lt = serials (suc k) (omega arith)
