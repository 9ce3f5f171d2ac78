-- A list that has each taken sector is as long as there are such sectors.
use Rattle.std.proofs.Common.{◌≡◌, ◌≢◌, inl, inr, ℕ, zero, suc, ◌+◌, ◌-◌, ◌≤◌, ◌<◌, Bool, true, false, not, cond, if◌then◌else◌, nat_lt, List, [], ◌∷◌, length, get_or, set, sym, refl, ◌∙◌, ap, count_by, arith}
use Rattle.std.specs.List.{Contains}
use Rattle.std.proofs.lemmas.List.{length-set, get_or-set_same, get_or-set_other}
use Rattle.std.proofs.lemmas.List.Sums.{sum_by-cons}
use Rattle.std.proofs.lemmas.Bool.{cases_eq, cases_Bool, false≢true}
use Rattle.std.proofs.lemmas.Bool.Decides.{nat_tests}
use Rattle.vol_alloc.specs.Alloc.{first_of, end_of, taken_of, free_of}
use Rattle.vol_alloc.specs.declared.sectors.Alloc.{Alloc}
use Rattle.vol_alloc.proofs.Free.{flag_there, cleared}

none_set : (flags : List Bool) → ((i : ℕ) → get_or flags i false ≡ true → ⊥) → length flags ≤ count_by not flags
none_set [] none = omega arith
none_set (true ∷ flags) none = absurd (none 0 refl)
none_set (false ∷ flags) none =
    let rest = none_set flags (λ i is. none (suc i) is) in
    omega (arith, rest, sum_by-cons (λ (b : Bool). cond {A = ℕ} (not b) 1 0) false flags)

-- an element of a list is its first one or one of the others
one_of : (n m : ℕ) (ns : List ℕ) → Contains (n ∷ ns) m → m ≢ n → Contains ns m
one_of n m ns (zero, lt, is) differ = absurd (differ (sym is))
one_of n m ns (suc k, lt, is) differ = (k, omega arith, is)

pub covers : (first : ℕ) (ns : List ℕ) (flags : List Bool) → ((i : ℕ) → get_or flags i false ≡ true → Contains ns (first + i)) → length flags ≤ count_by not flags + length ns
covers first [] flags all = let le = none_set flags (λ i is. let at = all i is in omega (arith, at.1)) in omega arith
covers first (n ∷ ns) flags all = elim (cases_Bool (get_or flags (n - first) false)) [
  | inl is ↦
      let lt : n - first < length flags = flag_there flags (n - first) is in
      let rest = covers first ns (set flags (n - first) false) (λ i at. elim (cases_eq i (n - first)) [
        | inl same ↦ absurd (false≢true (sym (ap (λ (k : ℕ). get_or (set flags (n - first) false) k false) same ∙ get_or-set_same flags (n - first) false false lt) ∙ at))
        | inr differ ↦ one_of n (first + i) ns (all i (sym (get_or-set_other flags (n - first) i false false differ) ∙ at)) (λ same. differ (omega arith))
      ]) in
      omega (arith, rest, cleared flags (n - first) false lt is, length-set flags (n - first) false)
  | inr clear ↦
      let rest = covers first ns flags (λ i at. one_of n (first + i) ns (all i at) (λ same.
      let here : i ≡ n - first = omega arith in
      false≢true (sym clear ∙ ap (λ (k : ℕ). get_or flags k false) (sym here) ∙ at))) in
      omega (arith, rest)
]

-- the flag of a sector of the range
flag_of : (first i : ℕ) (flags : List Bool) → get_or flags i false ≡ true → (if nat_lt (first + i) first then false else get_or flags (first + i - first) false) ≡ true
flag_of first i flags is =
    let back : first + i - first ≡ i = omega arith in
    keep (get_or flags (first + i - first) false) ∙ ap (λ (k : ℕ). get_or flags k false) back ∙ is
  where
    keep : (b : Bool) → (if nat_lt (first + i) first then false else b) ≡ b
    keep b = grind (arith, nat_tests)

pub taken_in_list : (a : Alloc) (ns : List ℕ) → ((n : ℕ) → taken_of a n ≡ true → Contains ns n) → end_of a - first_of a ≤ free_of a + length ns
taken_in_list a ns all =
    let le = covers (first_of a) ns a.taken.items (λ i is. all (first_of a + i) (flag_of (first_of a) i a.taken.items is)) in
    omega (arith, le, a.size)
