-- Lemmas on flags and the numbers whose flags aren't set.
use Rattle.std.proofs.Common.{◌≡◌, ◌≢◌, inl, inr, ℕ, ◌+◌, ◌-◌, ◌≤◌, ◌<◌, Bool, true, false, not, cond, if◌then◌else◌, nat_lt, List, [], ◌∷◌, ◌++◌, length, get_or, set, drop, sym, refl, ◌∙◌, ap, subst, count_by, arith}
use Rattle.std.proofs.lemmas.List.{length_push, get_or_push, get_or_append_left, length-set, get_or-set_same, get_or-set_other, get_or_past}
use Rattle.std.proofs.lemmas.List.Sums.{sum_by-set, sum_by-drop_more, count_by-le-length}
use Rattle.std.proofs.lemmas.Bool.{cases_eq, cases_lt, false≢true}
use Rattle.std.proofs.lemmas.Bool.Decides.{nat_tests}
use Rattle.vol_alloc.specs.internal.Numbers.{AreFree}

-- a flag that is false at one default is there
pub flag_there : (taken : List Bool) (i : ℕ) → get_or taken i false ≡ true → i < length taken
flag_there taken i is = elim (cases_lt i (length taken)) [
  | inl lt ↦ lt
  | inr past ↦ cc (get_or_past taken i false past)
]

-- what it means that a number is taken
pub taken_there : (first n : ℕ) (taken : List Bool) → (if nat_lt n first then false else get_or taken (n - first) false) ≡ true → (first ≤ n) × (get_or taken (n - first) false ≡ true)
taken_there first n taken is = elim (cases_lt n first) [
  | inl lt ↦ absurd (false≢true (sym (skip lt) ∙ is))
  | inr le ↦ (le, sym (keep le) ∙ is)
]
  where
    skip : n < first → (if nat_lt n first then false else get_or taken (n - first) false) ≡ false
    skip lt = grind (arith, nat_tests)

    keep : first ≤ n → (if nat_lt n first then false else get_or taken (n - first) false) ≡ get_or taken (n - first) false
    keep le = grind (arith, nat_tests)

pub is_there : (first n : ℕ) (taken : List Bool) → first ≤ n → get_or taken (n - first) false ≡ true → (if nat_lt n first then false else get_or taken (n - first) false) ≡ true
is_there first n taken le is = keep ∙ is
  where
    keep : (if nat_lt n first then false else get_or taken (n - first) false) ≡ get_or taken (n - first) false
    keep = grind (arith, nat_tests)

-- how many flags aren't set, when one is cleared or set
pub cleared : (taken : List Bool) (i : ℕ) (d : Bool) → i < length taken → get_or taken i d ≡ true → count_by not (set taken i false) ≡ count_by not taken + 1
cleared taken i d lt is =
    let one : cond {A = ℕ} (not (get_or taken i d)) 1 0 ≡ 0 = ap (λ (b : Bool). cond {A = ℕ} (not b) 1 0) is in
    omega (arith, sum_by-set (λ (b : Bool). cond (not b) 1 0) taken i false d lt, one)

pub flagged : (taken : List Bool) (i : ℕ) (d : Bool) → i < length taken → get_or taken i d ≡ false → count_by not (set taken i true) + 1 ≡ count_by not taken
flagged taken i d lt is =
    let one : cond {A = ℕ} (not (get_or taken i d)) 1 0 ≡ 1 = ap (λ (b : Bool). cond {A = ℕ} (not b) 1 0) is in
    omega (arith, sum_by-set (λ (b : Bool). cond (not b) 1 0) taken i true d lt, one)

-- how many flags aren't set from one on
pub counted_more : (taken : List Bool) (i : ℕ) (d : Bool) → i < length taken → get_or taken i d ≡ false → count_by not (drop i taken) ≡ count_by not (drop (i + 1) taken) + 1
counted_more taken i d lt is =
    let one : cond {A = ℕ} (not (get_or taken i d)) 1 0 ≡ 1 = ap (λ (b : Bool). cond {A = ℕ} (not b) 1 0) is in
    omega (arith, sum_by-drop_more (λ (b : Bool). cond (not b) 1 0) taken i d lt, one)

pub counted_same : (taken : List Bool) (i : ℕ) (d : Bool) → i < length taken → get_or taken i d ≡ true → count_by not (drop i taken) ≡ count_by not (drop (i + 1) taken)
counted_same taken i d lt is =
    let none : cond {A = ℕ} (not (get_or taken i d)) 1 0 ≡ 0 = ap (λ (b : Bool). cond {A = ℕ} (not b) 1 0) is in
    omega (arith, sum_by-drop_more (λ (b : Bool). cond (not b) 1 0) taken i d lt, none)

-- a number below the others joins them
pub above_more : (free : List ℕ) (n : ℕ) → ((k : ℕ) → k < length free → n ≤ get_or free k 0) → (k : ℕ) → k < length (free ++ n ∷ []) → n ≤ get_or (free ++ n ∷ []) k 0
above_more free n old k lt = elim (cases_eq k (length free)) [
  | inl is ↦ omega (arith, get_or_push free n 0 k (sym is))
  | inr other ↦ let l : k < length free = omega (arith, length_push free n) in omega (arith, old k l, get_or_append_left free (n ∷ []) 0 k l)
]

-- where one is taken, not all are free
pub some_taken : (taken : List Bool) (i : ℕ) (d : Bool) → i < length taken → get_or taken i d ≡ true → count_by not taken < length taken
some_taken taken i d lt is = omega (arith, cleared taken i d lt is, count_by-le-length not (set taken i false), length-set taken i false)

-- before the first free number
pub free_none : (first : ℕ) (taken : List Bool) (free : List ℕ) → free ≡ [] → AreFree first taken free
free_none first taken free none = subst (AreFree first taken) (sym none) (record {
  from = λ k lt. absurd (omega (arith, lt));
  there = λ k lt. absurd (omega (arith, lt));
  free = λ k lt. absurd (omega (arith, lt));
  distinct = λ j k less lt. absurd (omega (arith, lt));
})

-- one more free number
pub free_more : (first : ℕ) (taken : List Bool) (free : List ℕ) (n : ℕ) → AreFree first taken free → first ≤ n → n - first < length taken → get_or taken (n - first) true ≡ false
    → ((k : ℕ) → k < length free → get_or free k 0 ≢ n) → AreFree first taken (free ++ n ∷ [])
free_more first taken free n old from there clear new = record {
  from = λ k lt. at k (λ (x : ℕ). first ≤ x) lt (λ l. old.from k l) from;
  there = λ k lt. at k (λ (x : ℕ). x - first < length taken) lt (λ l. old.there k l) there;
  free = λ k lt. at k (λ (x : ℕ). get_or taken (x - first) true ≡ false) lt (λ l. old.free k l) clear;
  distinct = λ j k before lt. differ j k before lt;
}
  where
    long : length (free ++ n ∷ []) ≡ length free + 1
    long = length_push free n

    kept : (k : ℕ) → k < length free → get_or (free ++ n ∷ []) k 0 ≡ get_or free k 0
    kept k l = get_or_append_left free (n ∷ []) 0 k l

    last : get_or (free ++ n ∷ []) (length free) 0 ≡ n
    last = get_or_push free n 0 (length free) refl

    at : (k : ℕ) (P : ℕ → Type 0) → k < length (free ++ n ∷ []) → (k < length free → P (get_or free k 0)) → P n → P (get_or (free ++ n ∷ []) k 0)
    at k P lt before here = elim (cases_eq k (length free)) [
      | inl is ↦ subst P (sym (ap (λ (q : ℕ). get_or (free ++ n ∷ []) q 0) is ∙ last)) here
      | inr other ↦ let l : k < length free = omega (arith, long) in subst P (sym (kept k l)) (before l)
    ]

    differ : (j k : ℕ) → j < k → k < length (free ++ n ∷ []) → get_or (free ++ n ∷ []) j 0 ≢ get_or (free ++ n ∷ []) k 0
    differ j k before lt same = elim (cases_eq k (length free)) [
      | inl is ↦ let l : j < length free = omega (arith, long) in new j l (sym (kept j l) ∙ same ∙ ap (λ (q : ℕ). get_or (free ++ n ∷ []) q 0) is ∙ last)
      | inr other ↦ let l : k < length free = omega (arith, long) in let m : j < length free = omega arith in old.distinct j k before l (sym (kept j m) ∙ same ∙ kept k l)
    ]

-- a flag that is cleared leaves the others free
pub free_cleared : (first : ℕ) (taken : List Bool) (free : List ℕ) (i : ℕ) → AreFree first taken free → AreFree first (set taken i false) free
free_cleared first taken free i old = record {
  from = old.from;
  there = λ k lt. omega (arith, old.there k lt, length-set taken i false);
  free = λ k lt. elim (cases_eq (get_or free k 0 - first) i) [
    | inl is ↦ let there : i < length taken = omega (arith, old.there k lt) in ap (λ (q : ℕ). get_or (set taken i false) q true) is ∙ get_or-set_same taken i false true there
    | inr other ↦ get_or-set_other taken i (get_or free k 0 - first) false true other ∙ old.free k lt
  ];
  distinct = old.distinct;
}

-- the last free number is taken
pub free_taken : (first : ℕ) (taken : List Bool) (rest : List ℕ) (n : ℕ) → AreFree first taken (rest ++ n ∷ []) → AreFree first (set taken (n - first) true) rest
free_taken first taken rest n old = record {
  from = λ k lt. subst (λ (x : ℕ). first ≤ x) (kept k lt) (old.from k (longer k lt));
  there = λ k lt. let h = old.there k (longer k lt) in omega (arith, h, kept k lt, length-set taken (n - first) true);
  free = λ k lt. get_or-set_other taken (n - first) (get_or rest k 0 - first) true true (apart k lt) ∙ (ap (λ (x : ℕ). get_or taken (x - first) true) (sym (kept k lt)) ∙ old.free k (longer k lt));
  distinct = λ j k before lt same. let l : j < length rest = omega arith in old.distinct j k before (longer k lt) (kept j l ∙ same ∙ sym (kept k lt));
}
  where
    long : length (rest ++ n ∷ []) ≡ length rest + 1
    long = length_push rest n

    longer : (k : ℕ) → k < length rest → k < length (rest ++ n ∷ [])
    longer k lt = omega (arith, long)

    kept : (k : ℕ) → k < length rest → get_or (rest ++ n ∷ []) k 0 ≡ get_or rest k 0
    kept k lt = get_or_append_left rest (n ∷ []) 0 k lt

    last : get_or (rest ++ n ∷ []) (length rest) 0 ≡ n
    last = get_or_push rest n 0 (length rest) refl

    end : length rest < length (rest ++ n ∷ [])
    end = omega (arith, long)

    apart : (k : ℕ) → k < length rest → get_or rest k 0 - first ≢ n - first
    apart k lt same = old.distinct k (length rest) lt end (omega (arith, old.from k (longer k lt), old.from (length rest) end, kept k lt, last))
