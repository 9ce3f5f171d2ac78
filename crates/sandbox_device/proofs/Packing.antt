-- What calls leave of sectors of which those of zeros take no room.
use Rattle.std.proofs.Common.{◌≡◌, ◌≢◌, ◌⊎◌, inl, inr, ℕ, ◌+◌, ◌-◌, ◌≤◌, ◌<◌, ◌==◌, cond, if◌then◌else◌, List, [], ◌∷◌, ◌++◌, length, replicate, get_or, set, sym, refl, ◌∙◌, ap, subst, count_by, take, drop, append_assoc, arith, length-set, length-append, length-take-le}
use Rattle.std.proofs.lemmas.Bool.{cases_eq, cases_lt}
use Rattle.std.proofs.lemmas.Grind.{common_steps, get_or_default_zero}
use Rattle.std.proofs.lemmas.Bool.Decides.{nat_tests}
use Rattle.std.proofs.lemmas.List.{ext_get_or, get_or-map, get_or-set_same, get_or-set_other, get_or_push, get_or_append_left, get_or-replicate, drop_more, take_more, length-map, length-replicate, set-get_or}
use Rattle.std.proofs.lemmas.List.Sums.{sum_by-set}
use Rattle.std.proofs.Math.Seq.{set-append_seam}
use Rattle.std.proofs.lemmas.List.Folds.{sum_by-replicate}
use Rattle.sandbox_device.specs.internal.Packing.{zeros, sector_of, sectors_at, is_zero, IsPacked}

one : ℕ → ℕ
one k = cond (is_zero k) 1 0

-- a number, and none
some_of : (k : ℕ) (x y : List ℕ) → k ≢ 0 → (if k == 0 then x else y) ≡ y
some_of k x y is = grind (arith, nat_tests)

none_of : (k : ℕ) (x y : List ℕ) → k ≡ 0 → (if k == 0 then x else y) ≡ x
none_of k x y is = grind (arith, nat_tests)

weighs_one : (k : ℕ) → k ≡ 0 → cond {A = ℕ} (k == 0) 1 0 ≡ 1
weighs_one k is = grind (arith, nat_tests)

weighs_none : (k : ℕ) → k ≢ 0 → cond {A = ℕ} (k == 0) 1 0 ≡ 0
weighs_none k is = grind (arith, nat_tests)

-- past its end a list has the default
past : (ks : List ℕ) (i : ℕ) → length ks ≤ i → get_or ks i 0 ≡ 0
past ks i le = grind (arith, common_steps)

-- ---- reading

pub read_at : (written : List (List ℕ)) (places : List ℕ) (n : ℕ) → n < length places → get_or (sectors_at written places) n [] ≡ sector_of written (get_or places n 0)
read_at written places n lt = get_or-map (sector_of written) places n 0 [] lt

-- ---- none, and zeros

pub no_sectors : IsPacked [] []
no_sectors = record { within = λ i. omega arith; apart = λ i j other same. refl; counted = refl }

pub all_zeros : (n : ℕ) → IsPacked [] (replicate n 0)
all_zeros n = record {
  within = λ i. omega (arith, zero_at i);
  apart = λ i j other same. zero_at i;
  counted = omega (arith, sum_by-replicate (λ (k : ℕ). cond (k == 0) 1 0) n 0, length-replicate {A = ℕ} n 0);
}
  where
    zero_at : (i : ℕ) → get_or (replicate {A = ℕ} n 0) i 0 ≡ 0
    zero_at i = elim (cases_lt i n) [
      | inl lt ↦ get_or-replicate n i 0 0 lt
      | inr le ↦ past (replicate n 0) i (omega (arith, le, length-replicate {A = ℕ} n 0))
    ]

pub zeros_are : (n : ℕ) → sectors_at [] (replicate n 0) ≡ replicate n zeros
zeros_are n = ext_get_or zeros (sectors_at [] (replicate n 0)) (replicate n zeros)
    (length-map (replicate n 0) (sector_of []) ∙ length-replicate {A = ℕ} n 0 ∙ sym (length-replicate n zeros))
    (λ i lt. let within : i < n = omega (arith, lt, length-map (replicate n 0) (sector_of []), length-replicate {A = ℕ} n 0) in
    get_or-map (sector_of []) (replicate n 0) i 0 zeros (omega (arith, within, length-replicate {A = ℕ} n 0))
    ∙ none_of (get_or (replicate n 0) i 0) zeros (get_or [] (get_or (replicate n 0) i 0 - 1) zeros) (get_or-replicate n i 0 0 within)
    ∙ sym (get_or-replicate n i zeros zeros within))

pub made_of_zeros : (written : List (List ℕ)) (places : List ℕ) (n : ℕ) → written ≡ [] → places ≡ replicate n 0 → sectors_at written places ≡ replicate n zeros
made_of_zeros written places n none are = ap (λ (l : List (List ℕ)). sectors_at l places) none ∙ ap (sectors_at []) are ∙ zeros_are n

-- ---- writing over a written sector

pub packed_over : (written : List (List ℕ)) (places : List ℕ) (k : ℕ) (bytes : List ℕ) → IsPacked written places → IsPacked (set written k bytes) places
packed_over written places k bytes packed = record {
  within = λ i. omega (arith, packed.within i, length-set written k bytes);
  apart = packed.apart;
  counted = omega (arith, packed.counted, length-set written k bytes);
}

pub over_is : (written : List (List ℕ)) (places : List ℕ) (n : ℕ) (bytes : List ℕ) → IsPacked written places → n < length places → 0 < get_or places n 0
    → sectors_at (set written (get_or places n 0 - 1) bytes) places ≡ set (sectors_at written places) n bytes
over_is written places n bytes packed lt some =
    let k : ℕ = get_or places n 0 in
    let after : List (List ℕ) = set written (k - 1) bytes in
    ext_get_or zeros (sectors_at after places) (set (sectors_at written places) n bytes)
    (length-map places (sector_of after) ∙ sym (length-map places (sector_of written)) ∙ sym (length-set (sectors_at written places) n bytes))
    (λ i within. let there : i < length places = omega (arith, within, length-map places (sector_of after)) in
    get_or-map (sector_of after) places i 0 zeros there ∙ at i there)
  where
    at : (i : ℕ) → i < length places → sector_of (set written (get_or places n 0 - 1) bytes) (get_or places i 0) ≡ get_or (set (sectors_at written places) n bytes) i zeros
    at i there = elim (cases_eq i n) [
      | inl is ↦ ap (λ (m : ℕ). sector_of (set written (get_or places n 0 - 1) bytes) (get_or places m 0)) is
          ∙ some_of (get_or places n 0) zeros (get_or (set written (get_or places n 0 - 1) bytes) (get_or places n 0 - 1) zeros) (omega (arith, some))
          ∙ get_or-set_same written (get_or places n 0 - 1) bytes zeros (omega (arith, some, packed.within n))
          ∙ sym (get_or-set_same (sectors_at written places) n bytes zeros (omega (arith, lt, length-map places (sector_of written))))
          ∙ ap (λ (m : ℕ). get_or (set (sectors_at written places) n bytes) m zeros) (sym is)
      | inr other ↦ beside i other (cases_eq (get_or places i 0) 0)
          ∙ sym (get_or-map (sector_of written) places i 0 zeros there)
          ∙ sym (get_or-set_other (sectors_at written places) n i bytes zeros other)
    ]
      where
        beside : (i : ℕ) → i ≢ n → (get_or places i 0 ≡ 0) ⊎ (get_or places i 0 ≢ 0) → sector_of (set written (get_or places n 0 - 1) bytes) (get_or places i 0) ≡ sector_of written (get_or places i 0)
        beside i other (inl none) = none_of (get_or places i 0) zeros (get_or (set written (get_or places n 0 - 1) bytes) (get_or places i 0 - 1) zeros) none ∙ sym (none_of (get_or places i 0) zeros (get_or written (get_or places i 0 - 1) zeros) none)
        beside i other (inr not_none) =
            some_of (get_or places i 0) zeros (get_or (set written (get_or places n 0 - 1) bytes) (get_or places i 0 - 1) zeros) not_none
            ∙ get_or-set_other written (get_or places n 0 - 1) (get_or places i 0 - 1) bytes zeros (λ same. not_none (packed.apart i n other (omega (arith, same, some, not_none))))
            ∙ sym (some_of (get_or places i 0) zeros (get_or written (get_or places i 0 - 1) zeros) not_none)

-- ---- a sector of zeros is written

-- one number more
weight : (places : List ℕ) (n k : ℕ) → n < length places → get_or places n 0 ≡ 0 → k ≢ 0 → count_by is_zero (set places n k) + 1 ≡ count_by is_zero places
weight places n k lt none some =
    omega (arith, sum_by-set (λ (m : ℕ). cond (m == 0) 1 0) places n k 0 lt, weighs_one (get_or places n 0) none, weighs_none k some)

-- there is room for it
pub room : (written : List (List ℕ)) (places : List ℕ) (n : ℕ) → IsPacked written places → n < length places → get_or places n 0 ≡ 0 → length written < length places
room written places n packed lt none = omega (arith, packed.counted, weight places n 1 lt none (λ e. omega (arith, e)))

module _ (written : List (List ℕ)) (places : List ℕ) (n : ℕ) (bytes : List ℕ) (packed : IsPacked written places) (lt : n < length places) (none : get_or places n 0 ≡ 0) where
  grown : length (written ++ bytes ∷ []) ≡ length written + 1
  grown = length-append written (bytes ∷ [])

  here : (i : ℕ) → i ≡ n → get_or (set places n (length written + 1)) i 0 ≡ length written + 1
  here i is = ap (λ (m : ℕ). get_or (set places n (length written + 1)) m 0) is ∙ get_or-set_same places n (length written + 1) 0 lt

  there : (i : ℕ) → i ≢ n → get_or (set places n (length written + 1)) i 0 ≡ get_or places i 0
  there i other = get_or-set_other places n i (length written + 1) 0 other

  pub packed_push : IsPacked (written ++ bytes ∷ []) (set places n (length written + 1))
  packed_push = record {
    within = λ i. elim (cases_eq i n) [
      | inl is ↦ omega (arith, here i is, grown)
      | inr other ↦ omega (arith, there i other, grown, packed.within i)
    ];
    apart = λ i j differ same. elim (cases_eq i n) [
      | inl is ↦ elim (cases_eq j n) [
        | inl also ↦ absurd (differ (is ∙ sym also))
        | inr other ↦ absurd (let e : length written + 1 ≡ get_or places j 0 = sym (here i is) ∙ same ∙ there j other in omega (arith, e, packed.within j))
      ]
      | inr first ↦ elim (cases_eq j n) [
        | inl also ↦ absurd (let e : get_or places i 0 ≡ length written + 1 = sym (there i first) ∙ same ∙ here j also in omega (arith, e, packed.within i))
        | inr other ↦ there i first ∙ packed.apart i j differ (sym (there i first) ∙ same ∙ there j other)
      ]
    ];
    counted = omega (arith, packed.counted, weight places n (length written + 1) lt none (λ e. omega (arith, e)), grown, length-set places n (length written + 1));
  }

  -- what was written before is as it was
  older : (k : ℕ) → k ≤ length written → sector_of (written ++ bytes ∷ []) k ≡ sector_of written k
  older k le = elim (cases_eq k 0) [
    | inl is ↦ none_of k zeros (get_or (written ++ bytes ∷ []) (k - 1) zeros) is ∙ sym (none_of k zeros (get_or written (k - 1) zeros) is)
    | inr some ↦ some_of k zeros (get_or (written ++ bytes ∷ []) (k - 1) zeros) some ∙ get_or_append_left written (bytes ∷ []) zeros (k - 1) (omega (arith, le, some)) ∙ sym (some_of k zeros (get_or written (k - 1) zeros) some)
  ]

  newest : sector_of (written ++ bytes ∷ []) (length written + 1) ≡ bytes
  newest = some_of (length written + 1) zeros (get_or (written ++ bytes ∷ []) (length written + 1 - 1) zeros) (λ e. omega (arith, e))
      ∙ get_or_push written bytes zeros (length written + 1 - 1) (omega arith)

  pub push_is : sectors_at (written ++ bytes ∷ []) (set places n (length written + 1)) ≡ set (sectors_at written places) n bytes
  push_is =
      let after : List (List ℕ) = written ++ bytes ∷ [] in
      let numbers : List ℕ = set places n (length written + 1) in
      ext_get_or zeros (sectors_at after numbers) (set (sectors_at written places) n bytes)
      (length-map numbers (sector_of after) ∙ length-set places n (length written + 1) ∙ sym (length-map places (sector_of written)) ∙ sym (length-set (sectors_at written places) n bytes))
      (λ i within. let inside : i < length places = omega (arith, within, length-map numbers (sector_of after), length-set places n (length written + 1)) in
      get_or-map (sector_of after) numbers i 0 zeros (omega (arith, inside, length-set places n (length written + 1))) ∙ at i inside)
    where
      at : (i : ℕ) → i < length places → sector_of (written ++ bytes ∷ []) (get_or (set places n (length written + 1)) i 0) ≡ get_or (set (sectors_at written places) n bytes) i zeros
      at i inside = elim (cases_eq i n) [
        | inl is ↦ ap (sector_of (written ++ bytes ∷ [])) (here i is) ∙ newest
            ∙ sym (get_or-set_same (sectors_at written places) n bytes zeros (omega (arith, lt, length-map places (sector_of written))))
            ∙ ap (λ (m : ℕ). get_or (set (sectors_at written places) n bytes) m zeros) (sym is)
        | inr other ↦ ap (sector_of (written ++ bytes ∷ [])) (there i other) ∙ older (get_or places i 0) (packed.within i)
            ∙ sym (get_or-map (sector_of written) places i 0 zeros inside)
            ∙ sym (get_or-set_other (sectors_at written places) n i bytes zeros other)
      ]

  -- zeros over zeros
  pub same_is : bytes ≡ zeros → sectors_at written places ≡ set (sectors_at written places) n bytes
  same_is is =
      let was : get_or (sectors_at written places) n zeros ≡ bytes = get_or-map (sector_of written) places n 0 zeros lt ∙ none_of (get_or places n 0) zeros (get_or written (get_or places n 0 - 1) zeros) none ∙ sym is in
      sym (ap (set (sectors_at written places) n) (sym was) ∙ set-get_or (sectors_at written places) n zeros)

-- ---- what `put` leaves, in the words of its steps

module _ (written : List (List ℕ)) (places : List ℕ) (now : List (List ℕ)) (n k : ℕ) (bytes : List ℕ) (packed : IsPacked written places)
    (view : sectors_at written places ≡ now) (lt : n < length now) (read : k ≡ get_or places n k) where
  inside : n < length places
  inside = omega (arith, lt, ap length view, length-map places (sector_of written))

  number : k ≡ get_or places n 0
  number = read ∙ get_or_default_zero places n k inside

  pub put_over : 0 < k → sectors_at (set written (k - 1) bytes) places ≡ set now n bytes
  put_over some = ap (λ (m : ℕ). sectors_at (set written (m - 1) bytes) places) number
      ∙ over_is written places n bytes packed inside (omega (arith, some, number)) ∙ ap (λ (l : List (List ℕ)). set l n bytes) view

  pub has_room : k ≤ 0 → length written < length places
  has_room none = room written places n packed inside (omega (arith, none, number))

  numbered : (after : List (List ℕ)) (m : ℕ) → after ≡ written ++ bytes ∷ [] → m ≡ length after → m ≡ length written + 1
  numbered after m is len = len ∙ ap length is ∙ length-append written (bytes ∷ [])

  pub put_packed : k ≤ 0 → (after : List (List ℕ)) (m : ℕ) → after ≡ written ++ bytes ∷ [] → m ≡ length after → IsPacked after (set places n m)
  put_packed none after m is len = subst (λ (l : List (List ℕ)). IsPacked l (set places n m)) (sym is)
      (subst (λ (j : ℕ). IsPacked (written ++ bytes ∷ []) (set places n j)) (sym (numbered after m is len))
      (packed_push written places n bytes packed inside (omega (arith, none, number))))

  pub put_new : k ≤ 0 → (after : List (List ℕ)) (m : ℕ) → after ≡ written ++ bytes ∷ [] → m ≡ length after → sectors_at after (set places n m) ≡ set now n bytes
  put_new none after m is len = ap (λ (l : List (List ℕ)). sectors_at l (set places n m)) is
      ∙ ap (λ (j : ℕ). sectors_at (written ++ bytes ∷ []) (set places n j)) (numbered after m is len)
      ∙ push_is written places n bytes packed inside (omega (arith, none, number)) ∙ ap (λ (l : List (List ℕ)). set l n bytes) view

  pub put_zeros : k ≤ 0 → bytes ≡ zeros → now ≡ set now n bytes
  put_zeros none is = sym view ∙ same_is written places n bytes packed inside (omega (arith, none, number)) is ∙ ap (λ (l : List (List ℕ)). set l n bytes) view

-- ---- one more of several that are put

pub put_next : {X : Type 0} (s xs : List X) (f i n : ℕ) (d : X) → n ≡ f + i → i < length xs → f + length xs ≤ length s
    → set (take f s ++ take i xs ++ drop (f + i) s) n (get_or xs i d) ≡ take f s ++ take (i + 1) xs ++ drop (f + (i + 1)) s
put_next {X} s xs f i n d is lt fits =
    let front : List X = take f s ++ take i xs in
    let rest : List X = drop (f + i + 1) s in
    let x : X = get_or xs i d in
    let long : length front ≡ n = omega (arith, is, lt, fits, length-append (take f s) (take i xs), length-take-le f s (omega (arith, fits)), length-take-le i xs (omega (arith, lt))) in
    ap (λ (l : List X). set (front ++ l) n x) (drop_more s (f + i) d (omega (arith, lt, fits)))
    ∙ ap (λ (m : ℕ). set (front ++ get_or s (f + i) d ∷ rest) m x) (sym long)
    ∙ set-append_seam front (get_or s (f + i) d) rest x
    ∙ sym (append_assoc front (x ∷ []) rest)
    ∙ ap (λ (l : List X). l ++ rest) (append_assoc (take f s) (take i xs) (x ∷ []) ∙ ap (λ (l : List X). take f s ++ l) (sym (take_more xs i d lt)))
    ∙ ap (λ (m : ℕ). take f s ++ take (i + 1) xs ++ drop m s) (omega arith)
