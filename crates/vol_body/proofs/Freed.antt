-- How freeing sectors goes on.
use Rattle.std.proofs.Common.{◌≡◌, ◌≢◌, ◌⊎◌, inl, inr, ⊎_elim, ◌≤◌, ◌<◌, ◌+◌, ◌-◌, ◌*◌, ◌/◌, ◌%◌, ℕ, zero, suc, Bool, true, false, nat_lt, if◌then◌else◌, List, drop, get_or, slice_index, refl, sym, ◌∙◌, ap, subst, arith}
use Rattle.std.proofs.lemmas.Bool.{cases_lt, cases_eq, cond-true}
use Rattle.std.proofs.lemmas.List.{get_or_past}
use Rattle.std.proofs.lemmas.Bool.Decides.{nat_tests}
use Rattle.byteorder.specs.Endian.{little_number}
use Rattle.vol_sector.specs.Disk.{Image}
use Rattle.vol_alloc.specs.declared.sectors.Alloc.{Alloc}
use Rattle.vol_alloc.specs.Alloc.{end_of, taken_of}
use Rattle.vol_inode.specs.declared.entry.Entry.{Entry}
use Rattle.vol_body.specs.Body.{BlockPosition, data_block, indirect_block, inner_block, double_indirect_block, triple_indirect_block, IsPosition, first_served, named, number_in}
use Rattle.vol_body.specs.internal.Truncated.{Frees, IsAmong, IsFreedWithBlock, IsFreedWithLater, IsFreedWithDouble, IsFreedWithDoubles, IsFreedWithTriple, IsFreed}
use Rattle.vol_body.proofs.Places.{number_there, part_direct, part_listed, part_later, inner_in}

-- where nothing goes
pub frees_none : (before : ℕ → Bool) (These : ℕ → Type 0) → ((n : ℕ) → These n → before n ≡ true → ⊥) → Frees before before These
frees_none before These none = record {
  none_taken = λ n is. is;
  freed = none;
  others = λ n not_one. refl;
}

-- one after another
pub frees_then : (a b c : ℕ → Bool) (P Q : ℕ → Type 0) → Frees a b P → Frees b c Q → Frees a c (λ n. P n ⊎ Q n)
frees_then a b c P Q first second = record {
  none_taken = λ n is. first.none_taken n (second.none_taken n is);
  freed = λ n either is. ⊎_elim (λ p. first.freed n p (second.none_taken n is)) (λ q. second.freed n q is) either;
  others = λ n none. second.others n (λ q. none (inr q)) ∙ first.others n (λ p. none (inl p));
}

-- the same sectors in other words
pub frees_these : (a b : ℕ → Bool) (P Q : ℕ → Type 0) → Frees a b P → ((n : ℕ) → P n → Q n) → ((n : ℕ) → Q n → P n) → Frees a b Q
frees_these a b P Q frees to from = record {
  none_taken = frees.none_taken;
  freed = λ n q is. frees.freed n (from n q) is;
  others = λ n none. frees.others n (λ p. none (to n p));
}

-- one more number of a list
pub frees_next : (a b c : ℕ → Bool) (numbers : ℕ → ℕ) (from end : ℕ) → from ≤ end → Frees a b (IsAmong numbers from end) → Frees b c (λ k. k ≡ numbers end) → Frees a c (IsAmong numbers from (end + 1))
frees_next a b c numbers from end le first second =
    frees_these a c (λ n. IsAmong numbers from end n ⊎ (n ≡ numbers end)) (IsAmong numbers from (end + 1)) (frees_then a b c (IsAmong numbers from end) (λ k. k ≡ numbers end) first second)
    (λ n either. ⊎_elim (λ s. (s.0, s.1, omega (arith, s.2), s.3)) (λ is. (end, le, omega arith, sym is)) either)
    (λ n s. elim (cases_lt s.0 end) [
      | inl lt ↦ inl (s.0, s.1, lt, s.3)
      | inr ge ↦ inr (let at : s.0 ≡ end = omega (arith, s.2, ge) in sym s.3 ∙ ap numbers at)
    ])

-- one more inner block
pub frees_next_list : (a b c : ℕ → Bool) (content : Image) (numbers : ℕ → ℕ) (start count i : ℕ)
    → Frees a b (IsFreedWithLater content numbers start count i) → Frees b c (IsFreedWithBlock content (numbers i) (count - (start + 128 * i))) → Frees a c (IsFreedWithLater content numbers start count (i + 1))
frees_next_list a b c content numbers start count i first second =
    let P = IsFreedWithLater content numbers start count i in
    let Q = IsFreedWithBlock content (numbers i) (count - (start + 128 * i)) in
    frees_these a c (λ n. P n ⊎ Q n) (IsFreedWithLater content numbers start count (i + 1)) (frees_then a b c P Q first second)
    (λ n either. ⊎_elim (λ s. (s.0, omega (arith, s.1), s.2)) (λ goes. (i, omega arith, goes)) either)
    (λ n s. elim (cases_lt s.0 i) [
      | inl lt ↦ inl (s.0, lt, s.2)
      | inr ge ↦ inr (let at : s.0 ≡ i = omega (arith, s.1, ge) in subst (λ (k : ℕ). IsFreedWithBlock content (numbers k) (count - (start + 128 * k)) n) at s.2)
    ])

-- the same lists by other numbers
pub frees_lists : (a b : ℕ → Bool) (content : Image) (numbers others : ℕ → ℕ) (start count : ℕ) → ((i : ℕ) → i < 128 → numbers i ≡ others i)
    → Frees a b (IsFreedWithLater content numbers start count 128) → Frees a b (IsFreedWithLater content others start count 128)
frees_lists a b content numbers others start count same frees =
    frees_these a b (IsFreedWithLater content numbers start count 128) (IsFreedWithLater content others start count 128) frees
    (λ n s. (s.0, s.1, subst (λ (k : ℕ). IsFreedWithBlock content k (count - (start + 128 * s.0)) n) (same s.0 s.1) s.2))
    (λ n s. (s.0, s.1, subst (λ (k : ℕ). IsFreedWithBlock content k (count - (start + 128 * s.0)) n) (sym (same s.0 s.1)) s.2))

-- one more double-indirect block
pub frees_next_double : (a b c : ℕ → Bool) (content : Image) (numbers : ℕ → ℕ) (count m : ℕ)
    → Frees a b (IsFreedWithDoubles content numbers count m) → Frees b c (IsFreedWithDouble content (numbers m) (16570 + 16384 * m) count) → Frees a c (IsFreedWithDoubles content numbers count (m + 1))
frees_next_double a b c content numbers count m first second =
    let P = IsFreedWithDoubles content numbers count m in
    let Q = IsFreedWithDouble content (numbers m) (16570 + 16384 * m) count in
    frees_these a c (λ n. P n ⊎ Q n) (IsFreedWithDoubles content numbers count (m + 1)) (frees_then a b c P Q first second)
    (λ n either. ⊎_elim (λ s. (s.0, omega (arith, s.1), s.2)) (λ goes. (m, omega arith, goes)) either)
    (λ n s. elim (cases_lt s.0 m) [
      | inl lt ↦ inl (s.0, lt, s.2)
      | inr ge ↦ inr (let at : s.0 ≡ m = omega (arith, s.1, ge) in subst (λ (k : ℕ). IsFreedWithDouble content (numbers k) (16570 + 16384 * k) count n) at s.2)
    ])

-- the same double-indirect blocks by other numbers
pub frees_doubles : (a b : ℕ → Bool) (content : Image) (numbers others : ℕ → ℕ) (count : ℕ) → ((m : ℕ) → m < 128 → numbers m ≡ others m)
    → Frees a b (IsFreedWithDoubles content numbers count 128) → Frees a b (IsFreedWithDoubles content others count 128)
frees_doubles a b content numbers others count same frees =
    frees_these a b (IsFreedWithDoubles content numbers count 128) (IsFreedWithDoubles content others count 128) frees
    (λ n s. (s.0, s.1, subst (λ (k : ℕ). IsFreedWithDouble content k (16570 + 16384 * s.0) count n) (same s.0 s.1) s.2))
    (λ n s. (s.0, s.1, subst (λ (k : ℕ). IsFreedWithDouble content k (16570 + 16384 * s.0) count n) (sym (same s.0 s.1)) s.2))

-- numbers before the end are those that are listed, where these are before it
pub listed_before : (content : Image) (of_list end : ℕ) (image : List ℕ) → of_list ≢ 0 → image ≡ content of_list
    → ((i : ℕ) → i < 128 → number_in content of_list i ≢ 0 → number_in content of_list i < end)
    → (numbers : ℕ → ℕ) → ((i : ℕ) → i < 128 → numbers i ≡ (if nat_lt (little_number 4 (drop (4 * i) image)) end then little_number 4 (drop (4 * i) image) else 0))
    → (i : ℕ) → i < 128 → numbers i ≡ number_in content of_list i
listed_before content of_list end image some is before numbers known i lt =
    known i lt ∙ ap (λ (n : ℕ). if nat_lt n end then n else 0) (ap (λ (bytes : List ℕ). little_number 4 (drop (4 * i) bytes)) is ∙ sym (number_there content of_list i some)) ∙ elim (cases_eq (number_in content of_list i) 0) [
      | inl none ↦ either (nat_lt (number_in content of_list i) end) (number_in content of_list i) none
      | inr there ↦ within (number_in content of_list i) (before i lt there)
    ]
  where
    either : (b : Bool) (n : ℕ) → n ≡ 0 → (if b then n else 0) ≡ n
    either true n none = refl
    either false n none = sym none

    within : (n : ℕ) → n < end → (if nat_lt n end then n else 0) ≡ n
    within n below = grind (arith, nat_tests)

-- what the inner blocks of a double-indirect block lose, by its numbers as they were read
pub frees_inner : (a b : ℕ → Bool) (content now : Image) (n start count end other : ℕ) (image : List ℕ) (numbers : ℕ → ℕ) → n ≢ 0 → image ≡ content n → end ≡ other
    → ((i : ℕ) → i < 128 → number_in content n i ≢ 0 → number_in content n i < other)
    → ((i : ℕ) → i < 128 → numbers i ≡ (if nat_lt (little_number 4 (drop (4 * i) image)) end then little_number 4 (drop (4 * i) image) else 0))
    → now ≡ content → Frees a b (IsFreedWithLater now numbers start count 128) → Frees a b (IsFreedWithLater content (number_in content n) start count 128)
frees_inner a b content now n start count end other image numbers some is same before known view frees =
    frees_lists a b content numbers (number_in content n) start count
    (listed_before content n end image some is (λ i lt there. subst (λ (k : ℕ). number_in content n i < k) (sym same) (before i lt there)) numbers known)
    (subst (λ (m : Image). Frees a b (IsFreedWithLater m numbers start count 128)) view frees)

-- such a number is before the end, whatever the sector has
pub before_end : (n end k : ℕ) → k ≡ (if nat_lt n end then n else 0) → k ≢ 0 → k < end
before_end n end k is some = elim (cases_lt n end) [
  | inl lt ↦ omega (arith, lt, is, kept n lt)
  | inr past ↦ absurd (some (is ∙ none n past))
]
  where
    kept : (n : ℕ) → n < end → (if nat_lt n end then n else 0) ≡ n
    kept n lt = grind (arith, nat_tests)

    none : (n : ℕ) → end ≤ n → (if nat_lt n end then n else 0) ≡ 0
    none n le = grind (arith, nat_tests)

-- what a list's image lists
pub frees_read : (a b : ℕ → Bool) (content : Image) (of_list from : ℕ) (image : List ℕ) → of_list ≢ 0 → image ≡ content of_list
    → Frees a b (IsAmong (λ i. little_number 4 (drop (4 * i) image)) from 128) → Frees a b (IsAmong (number_in content of_list) from 128)
frees_read a b content of_list from image there is frees =
    let same : (i : ℕ) → little_number 4 (drop (4 * i) image) ≡ number_in content of_list i = λ i. ap (λ (bytes : List ℕ). little_number 4 (drop (4 * i) bytes)) is ∙ sym (number_there content of_list i there) in
    frees_these a b (IsAmong (λ i. little_number 4 (drop (4 * i) image)) from 128) (IsAmong (number_in content of_list) from 128) frees
    (λ n s. (s.0, s.1, s.2, sym (same s.0) ∙ s.3)) (λ n s. (s.0, s.1, s.2, same s.0 ∙ s.3))

pub frees_at : (a b : ℕ → Bool) (one other : Image) (of_list x y : ℕ) → one ≡ other → x ≡ y → Frees a b (IsFreedWithBlock one of_list x) → Frees a b (IsFreedWithBlock other of_list y)
frees_at a b one other of_list x y same is frees =
    subst (λ (k : ℕ). Frees a b (IsFreedWithBlock other of_list k)) is (subst (λ (m : Image). Frees a b (IsFreedWithBlock m of_list x)) same frees)

-- a number that is taken wherever it isn't 0 is known
pub known_number : (taken : ℕ → Bool) (m n : ℕ) → m ≡ n → (n ≢ 0 → taken n ≡ true) → (if taken m then m else 0) ≡ n
known_number taken m n is there = ap (λ (x : ℕ). if taken x then x else 0) is ∙ elim (cases_eq n 0) [
  | inl none ↦ either (taken n) n none
  | inr some ↦ cond-true _ _ _ (there some)
]
  where
    either : (b : Bool) (n : ℕ) → n ≡ 0 → (if b then n else 0) ≡ n
    either true n none = refl
    either false n none = sym none

-- a known sector is one of the range
pub known_there : (a : Alloc) (n k end : ℕ) → k ≡ (if taken_of a n then n else 0) → end_of a ≤ end → k ≢ 0 → k < end
known_there a n k end is le some = elim (cases_lt n (end_of a)) [
  | inl lt ↦ omega (arith, below (taken_of a n) n, is)
  | inr past ↦ absurd (some (is ∙ outside past))
]
  where
    below : (b : Bool) (n : ℕ) → (if b then n else 0) ≤ n
    below true n = omega arith
    below false n = omega arith

    outside : end_of a ≤ n → (if taken_of a n then n else 0) ≡ 0
    outside past = neither (nat_lt n a.first) (get_or a.taken.items (n - a.first) false) (get_or_past a.taken.items (n - a.first) false (omega (arith, a.size)))
      where
        neither : (b f : Bool) → f ≡ false → (if (if b then false else f) then n else 0) ≡ 0
        neither true f none = refl
        neither false f none = ap (λ (x : Bool). if x then n else 0) none

-- Sector 0 stands for none, and is never taken.
pub none_taken : (first : ℕ) (flags : List Bool) (n : ℕ) → 0 < first → 0 ≡ n → (if nat_lt n first then false else get_or flags (n - first) false) ≡ true → ⊥
none_taken first flags n lt is taken = grind (arith, nat_tests)

pub no_list : (content : Image) (from n : ℕ) → IsFreedWithBlock content 0 from n → 0 ≡ n
no_list content from n goes = ⊎_elim (λ s. s.3) (λ s. s.1) goes

pub short_list : (content : Image) (of_list from n : ℕ) → 128 ≤ from → IsFreedWithBlock content of_list from n → ⊥
short_list content of_list from n le goes = ⊎_elim (λ s. omega (arith, s.1, s.2)) (λ s. omega (arith, s.0)) goes

pub no_double : (content : Image) (start count n : ℕ) → IsFreedWithDouble content 0 start count n → 0 ≡ n
no_double content start count n goes = ⊎_elim (λ s. no_list content (count - (start + 128 * s.0)) n s.2) (λ s. s.1) goes

pub no_triple : (content : Image) (count n : ℕ) → IsFreedWithTriple content 0 count n → 0 ≡ n
no_triple content count n goes = ⊎_elim (λ s. no_double content (16570 + 16384 * s.0) count n s.2) (λ s. s.1) goes

-- a double-indirect block of which all is kept
pub kept_double : (content : Image) (of_list start count n : ℕ) → start + 16384 ≤ count → IsFreedWithDouble content of_list start count n → ⊥
kept_double content of_list start count n le goes = ⊎_elim (λ s. short_list content (number_in content of_list s.0) (count - (start + 128 * s.0)) n (omega (arith, le, s.1)) s.2) (λ s. omega (arith, le, s.0)) goes

module _ (content : Image) (e : Entry) (count : ℕ) where
  -- what goes, list by list
  abbrev pub IsFreedFirst : ℕ → Type 0
  IsFreedFirst n = IsFreedWithDouble content (named content e (double_indirect_block 0)) 186 count n

  abbrev pub IsFreedLater : ℕ → Type 0
  IsFreedLater n = IsFreedWithTriple content (named content e triple_indirect_block) count n ⊎ IsFreedFirst n

  abbrev pub IsFreedByBlocks : ℕ → Type 0
  IsFreedByBlocks n = (IsFreedLater n ⊎ IsFreedWithBlock content (named content e indirect_block) (count - 58) n) ⊎ IsAmong (slice_index e.pointers) count 58 n

  by_double : (d n : ℕ) → d < 129 → IsFreedWithDouble content (named content e (double_indirect_block d)) (186 + 16384 * d) count n → IsFreedLater n
  by_double zero n there goes = inr goes
  by_double (suc m) n there goes =
      let start : 186 + 16384 * suc m ≡ 16570 + 16384 * m = omega arith in
      inl (inl (m, omega (arith, there), subst (λ (k : ℕ). IsFreedWithDouble content (named content e (double_indirect_block (suc m))) k count n) start goes))

  by_inner : (i n : ℕ) → i < 16512 → IsFreedWithBlock content (named content e (inner_block i)) (count - (186 + 128 * i)) n → IsFreedLater n
  by_inner i n there goes =
      let from : count - (186 + 128 * i) ≡ count - (186 + 16384 * (i / 128) + 128 * (i % 128)) = omega arith in
      by_double (i / 128) n (omega (arith, there)) (inl (i % 128, omega arith, subst (λ (k : ℕ). IsFreedWithBlock content (named content e (inner_block i)) k n) from goes))

  from_part : (j n : ℕ) → j < 2113722 → count ≤ j → named content e (data_block j) ≡ n → IsFreedByBlocks n
  from_part j n there le is = elim (cases_lt j 58) [
    | inl direct ↦ inr (j, le, direct, sym (part_direct content e j direct) ∙ is)
    | inr past ↦ elim (cases_lt j 186) [
      | inl listed ↦ inl (inr (inl (j - 58, omega arith, omega arith, sym (part_listed content e j past listed) ∙ is)))
      | inr later ↦ inl (inl (by_inner ((j - 186) / 128) n (omega arith) (inl ((j - 186) % 128, omega arith, omega arith, sym (part_later content e j later) ∙ is))))
    ]
  ]

  from_place : (p : BlockPosition) (n : ℕ) → IsPosition p → count ≤ first_served p → named content e p ≡ n → IsFreedByBlocks n
  from_place (data_block j) n there le is = from_part j n there le is
  from_place indirect_block n there le is = inl (inr (inr (omega arith, is)))
  from_place (inner_block i) n there le is = inl (inl (by_inner i n there (inr (omega (arith, le), is))))
  from_place (double_indirect_block d) n there le is = inl (inl (by_double d n there (inr (le, is))))
  from_place triple_indirect_block n there le is = inl (inl (inl (inr (le, is))))

  to_later_part : (i m n : ℕ) → i < 16512 → m < 128 → count - (186 + 128 * i) ≤ m → number_in content (named content e (inner_block i)) m ≡ n → IsFreed content e count n
  to_later_part i m n a b le is =
      let j = 186 + 128 * i + m in
      let at_list : (j - 186) / 128 ≡ i = omega arith in
      let at : (j - 186) % 128 ≡ m = omega arith in (
        data_block j,
        omega arith,
        omega arith,
        part_later content e j (omega arith)
            ∙ ap (λ (k : ℕ). number_in content (named content e (inner_block k)) ((j - 186) % 128)) at_list
            ∙ ap (number_in content (named content e (inner_block i))) at ∙ is,
      )

  to_double : (d n : ℕ) → d < 129 → IsFreedWithDouble content (named content e (double_indirect_block d)) (186 + 16384 * d) count n → IsFreed content e count n
  to_double d n there goes = ⊎_elim (λ s.
      let r = s.0 in
      let i = 128 * d + r in
      let below : i < 16512 = omega (arith, there, s.1) in
      let inner : number_in content (named content e (double_indirect_block d)) r ≡ named content e (inner_block i) = sym (inner_in content e d r s.1) in
      ⊎_elim (λ t. to_later_part i t.0 n below t.2 (omega (arith, t.1)) (sym (ap (λ (m : ℕ). number_in content m t.0) inner) ∙ t.3))
      (λ t. (inner_block i, below, omega (arith, t.0), sym inner ∙ t.1)) s.2)
      (λ s. (double_indirect_block d, there, s.0, s.1)) goes

  to_triple : (n : ℕ) → IsFreedWithTriple content (named content e triple_indirect_block) count n → IsFreed content e count n
  to_triple n goes = ⊎_elim (λ s.
      let start : 16570 + 16384 * s.0 ≡ 186 + 16384 * suc s.0 = omega arith in
      to_double (suc s.0) n (omega (arith, s.1)) (subst (λ (k : ℕ). IsFreedWithDouble content (named content e (double_indirect_block (suc s.0))) k count n) start s.2))
      (λ s. (triple_indirect_block, tt, s.0, s.1)) goes

  to_list : (n : ℕ) → IsFreedWithBlock content (named content e indirect_block) (count - 58) n → IsFreed content e count n
  to_list n goes = ⊎_elim (λ s.
      let back : s.0 + 58 - 58 ≡ s.0 = omega arith in (
        data_block (s.0 + 58),
        omega (arith, s.2),
        omega (arith, s.1),
        part_listed content e (s.0 + 58) (omega arith) (omega (arith, s.2)) ∙ ap (number_in content (named content e indirect_block)) back ∙ s.3,
      ))
      (λ s. (indirect_block, tt, omega (arith, s.0), s.1)) goes

  pub frees_all : (a b : ℕ → Bool) → Frees a b IsFreedByBlocks → Frees a b (IsFreed content e count)
  frees_all a b frees = frees_these a b IsFreedByBlocks (IsFreed content e count) frees
      (λ n either. ⊎_elim (λ listed. ⊎_elim (λ later. ⊎_elim (to_triple n) (to_double 0 n (omega arith)) later) (to_list n) listed)
      (λ s. (data_block s.0, omega (arith, s.2), s.1, part_direct content e s.0 s.2 ∙ s.3)) either)
      (λ n s. from_place s.0 n s.1 s.2 s.3)
