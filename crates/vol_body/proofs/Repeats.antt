-- A file that keeps its rules names no sector twice.
use Rattle.std.proofs.Common.{◌≡◌, ◌≢◌, inl, inr, ◌≤◌, ◌<◌, ◌+◌, ◌-◌, ◌*◌, ◌/◌, ◌%◌, ℕ, zero, suc, true, false, nat_lt, if◌then◌else◌, List, [], ◌∷◌, ◌++◌, length, map, get_or, refl, sym, ◌∙◌, ap, subst, arith, eqb}
use Rattle.std.proofs.lemmas.Bool.{cases_eq, cases_lt, eqb-true, ne_eqb}
use Rattle.std.proofs.lemmas.Bool.Decides.{nat_tests}
use Rattle.std.proofs.lemmas.List.{length-append, get_or_append_left, get_or-append_right, get_or_default, length-map, get_or-map}
use Rattle.std.proofs.lemmas.List.Elements.{Contains-get_or}
use Rattle.std.proofs.lemmas.List.FromFn.{length-map-range_with_len, get_or-map-range_with_len}
use Rattle.std.specs.List.{range_with_len, flat_map, Contains, IsDistinct, AllByRecursion}
use Rattle.std.proofs.lemmas.List.Folds.{Any-from_list_any}
use Rattle.std.proofs.lemmas.Map.Steps.{length-le_from_distinct_below}
use Rattle.vol_sector.specs.Disk.{Image}
use Rattle.vol_alloc.specs.Numbers.{AreDistinct}
use Rattle.vol_inode.specs.declared.entry.Entry.{Entry}
use Rattle.vol_body.specs.Body.{BlockPosition, data_block, indirect_block, inner_block, double_indirect_block, triple_indirect_block, IsPosition, named, IsBody}
use Rattle.vol_body.specs.Survey.{data_blocks_from, inner_positions, double_positions, later_double_positions, every_position, nonzero, sectors_named}
use Rattle.vol_body.proofs.SurveyExits.{nonzero-append, one_number}
use Rattle.vol_body.proofs.Surveyed.{every_is, was_there}

-- ---- each position has a number, at which it stands in the list

double_place : ℕ → ℕ
double_place d = if nat_lt d 1 then 187 else 188 + 16513 * d

inner_place : ℕ → ℕ
inner_place i = double_place (i / 128) + (1 + 129 * (i % 128))

part_number : ℕ → ℕ
part_number j = if nat_lt j 58 then j else (if nat_lt j 186 then j + 1 else inner_place ((j - 186) / 128) + (1 + (j - 186) % 128))

number_of : BlockPosition → ℕ
number_of (data_block j) = part_number j
number_of indirect_block = 58
number_of (inner_block i) = inner_place i
number_of (double_indirect_block d) = double_place d
number_of triple_indirect_block = 16700

first_double : double_place 0 ≡ 187
unfolding double_place
first_double = refl

next_double : (d : ℕ) → 1 ≤ d → double_place d ≡ 188 + 16513 * d
unfolding double_place
next_double d le = grind (arith, nat_tests)

inner_at : (d r : ℕ) → r < 128 → inner_place (128 * d + r) ≡ double_place d + (1 + 129 * r)
unfolding inner_place
inner_at d r lt =
    let which : (128 * d + r) / 128 ≡ d = omega (arith, lt) in
    let rest : (128 * d + r) % 128 ≡ r = omega (arith, lt) in
    (λ i. double_place (which i) + (1 + 129 * rest i))

direct_number : (j : ℕ) → j < 58 → part_number j ≡ j
unfolding part_number
direct_number j lt = grind (arith, nat_tests)

listed_number : (j : ℕ) → 58 ≤ j → j < 186 → part_number j ≡ j + 1
unfolding part_number
listed_number j le lt = grind (arith, nat_tests)

later_number : (j : ℕ) → 186 ≤ j → part_number j ≡ inner_place ((j - 186) / 128) + (1 + (j - 186) % 128)
unfolding part_number
later_number j le = pick j (inner_place ((j - 186) / 128) + (1 + (j - 186) % 128)) le
  where
    pick : (j x : ℕ) → 186 ≤ j → (if nat_lt j 58 then j else (if nat_lt j 186 then j + 1 else x)) ≡ x
    pick j x le = grind (arith, nat_tests)

-- the positions of a list have these numbers, one after another
unfoldable pub Numbered : (BlockPosition → ℕ) → ℕ → List BlockPosition → Type 0
Numbered number a xs = (k : ℕ) → k < length xs → number (get_or xs k indirect_block) ≡ a + k

pub numbered_append : (number : BlockPosition → ℕ) (a n : ℕ) (xs ys : List BlockPosition) → length xs ≡ n → Numbered number a xs → Numbered number (a + n) ys → Numbered number a (xs ++ ys)
unfolding Numbered
numbered_append number a n xs ys long one two k lt = elim (cases_lt k (length xs)) [
  | inl below ↦ ap number (get_or_append_left xs ys indirect_block k below) ∙ one k below
  | inr past ↦
      let there : k - length xs < length ys = omega (arith, lt, past, length-append xs ys) in
      let sums : a + n + (k - length xs) ≡ a + k = omega (arith, past, long) in
      ap number (get_or-append_right xs ys (length xs) k indirect_block refl past) ∙ two (k - length xs) there ∙ sums
]

long_parts : (first count : ℕ) → length (data_blocks_from first count) ≡ count
unfolding data_blocks_from
long_parts first count = length-map-range_with_len data_block first count

-- positions that are made of the numbers from one on
pub numbered_made : (number : BlockPosition → ℕ) (make : ℕ → BlockPosition) (a first count : ℕ) → ((i : ℕ) → i < count → number (make (first + i)) ≡ a + i) → Numbered number a (map make (range_with_len first count))
unfolding Numbered
numbered_made number make a first count are k lt =
    let below : k < count = omega (arith, lt, length-map-range_with_len make first count) in
    ap number (get_or-map-range_with_len make first count k (first + k) indirect_block below (omega arith)) ∙ are k below

numbered_parts : (a first count : ℕ) → ((i : ℕ) → i < count → part_number (first + i) ≡ a + i) → Numbered number_of a (data_blocks_from first count)
unfolding data_blocks_from number_of
numbered_parts a first count are = numbered_made number_of data_block a first count are

pub numbered_one : (number : BlockPosition → ℕ) (a : ℕ) (p : BlockPosition) → number p ≡ a → Numbered number a (p ∷ [])
unfolding Numbered
numbered_one number a p is zero lt = omega (arith, is)
numbered_one number a p is (suc k) lt = absurd (omega (arith, lt))

numbered_later : (i : ℕ) → Numbered number_of (inner_place i) (inner_positions i)
unfolding number_of
numbered_later i = numbered_append number_of (inner_place i) 1 (inner_block i ∷ []) (data_blocks_from (186 + 128 * i) 128) refl (numbered_one number_of (inner_place i) (inner_block i) refl)
    (numbered_parts (inner_place i + 1) (186 + 128 * i) 128 (λ k lt.
    let j = 186 + 128 * i + k in
    let group : (j - 186) / 128 ≡ i = omega (arith, lt) in
    let rest : (j - 186) % 128 ≡ k = omega (arith, lt) in
    later_number j (omega arith) ∙ (λ x. inner_place (group x) + (1 + rest x)) ∙ (omega arith)))

long_later : (i : ℕ) → length (inner_positions i) ≡ 129
long_later i = omega (arith, long_parts (186 + 128 * i) 128)

long_flat : (b n : ℕ) → length (flat_map inner_positions (range_with_len b n)) ≡ 129 * n
long_flat b zero = refl
long_flat b (suc n) = omega (arith, length-append (inner_positions b) (flat_map inner_positions (range_with_len (b + 1) n)), long_later b, long_flat (b + 1) n)

numbered_flat : (d r n : ℕ) → r + n ≤ 128 → Numbered number_of (double_place d + (1 + 129 * r)) (flat_map inner_positions (range_with_len (128 * d + r) n))
unfolding Numbered
numbered_flat d r zero le k lt = absurd (omega (arith, lt))
numbered_flat d r (suc n) le k lt =
    let start = double_place d + (1 + 129 * r) in
    let b = 128 * d + r in
    let here : inner_place b ≡ start = inner_at d r (omega (arith, le)) in
    let further : 128 * d + (r + 1) ≡ b + 1 = omega arith in
    let next : double_place d + (1 + 129 * (r + 1)) ≡ start + 129 = omega arith in
    numbered_append number_of start 129 (inner_positions b) (flat_map inner_positions (range_with_len (b + 1) n)) (long_later b)
    (subst (λ (a : ℕ). Numbered number_of a (inner_positions b)) here (numbered_later b))
    (subst (λ (a : ℕ). Numbered number_of a (flat_map inner_positions (range_with_len (b + 1) n))) next
    (subst (λ (x : ℕ). Numbered number_of (double_place d + (1 + 129 * (r + 1))) (flat_map inner_positions (range_with_len x n))) further (numbered_flat d (r + 1) n (omega (arith, le))))) k lt

numbered_double : (d : ℕ) → Numbered number_of (double_place d) (double_positions d)
unfolding double_positions number_of
numbered_double d =
    let start : 128 * d + 0 ≡ 128 * d = omega arith in
    let first : double_place d + (1 + 129 * 0) ≡ double_place d + 1 = omega arith in
    numbered_append number_of (double_place d) 1 (double_indirect_block d ∷ []) (flat_map inner_positions (range_with_len (128 * d) 128)) refl (numbered_one number_of (double_place d) (double_indirect_block d) refl)
    (subst (λ (a : ℕ). Numbered number_of a (flat_map inner_positions (range_with_len (128 * d) 128))) first
    (subst (λ (x : ℕ). Numbered number_of (double_place d + (1 + 129 * 0)) (flat_map inner_positions (range_with_len x 128))) start (numbered_flat d 0 128 (omega arith))))

long_double : (d : ℕ) → length (double_positions d) ≡ 16513
unfolding double_positions
long_double d = omega (arith, long_flat (128 * d) 128)

numbered_doubles : (b n : ℕ) → 1 ≤ b → Numbered number_of (188 + 16513 * b) (flat_map double_positions (range_with_len b n))
unfolding Numbered
numbered_doubles b zero some k lt = absurd (omega (arith, lt))
numbered_doubles b (suc n) some k lt =
    let next : 188 + 16513 * (b + 1) ≡ 188 + 16513 * b + 16513 = omega arith in
    numbered_append number_of (188 + 16513 * b) 16513 (double_positions b) (flat_map double_positions (range_with_len (b + 1) n)) (long_double b)
    (subst (λ (a : ℕ). Numbered number_of a (double_positions b)) (next_double b some) (numbered_double b))
    (subst (λ (a : ℕ). Numbered number_of a (flat_map double_positions (range_with_len (b + 1) n))) next (numbered_doubles (b + 1) n (omega arith))) k lt

first_two : List BlockPosition
first_two = data_blocks_from 0 58 ++ (indirect_block ∷ data_blocks_from 58 128)

long_two : length first_two ≡ 187
unfolding first_two
long_two = omega (arith, length-append (data_blocks_from 0 58) (indirect_block ∷ data_blocks_from 58 128), long_parts 0 58, long_parts 58 128)

numbered_two : Numbered number_of 0 first_two
unfolding first_two number_of
numbered_two =
    numbered_append number_of 0 58 (data_blocks_from 0 58) (indirect_block ∷ data_blocks_from 58 128) (long_parts 0 58)
    (numbered_parts 0 0 58 (λ i lt. let is = direct_number (0 + i) (omega (arith, lt)) in omega (arith, is)))
    (numbered_append number_of 58 1 (indirect_block ∷ []) (data_blocks_from 58 128) refl (numbered_one number_of 58 indirect_block refl)
    (numbered_parts 59 58 128 (λ i lt. let is = listed_number (58 + i) (omega arith) (omega (arith, lt)) in omega (arith, is))))

numbered_places : Numbered number_of 0 every_position
unfolding first_two later_double_positions number_of
numbered_places =
    numbered_append number_of 0 16700 (first_two ++ double_positions 0) (triple_indirect_block ∷ later_double_positions) (omega (arith, length-append first_two (double_positions 0), long_two, long_double 0))
    (numbered_append number_of 0 187 first_two (double_positions 0) long_two numbered_two (subst (λ (a : ℕ). Numbered number_of a (double_positions 0)) first_double (numbered_double 0)))
    (numbered_append number_of 16700 1 (triple_indirect_block ∷ []) later_double_positions refl (numbered_one number_of 16700 triple_indirect_block refl) (numbered_doubles 1 128 (omega arith)))

-- ---- numbers without the zeros

heads : (x : ℕ) (xs : List ℕ) → AreDistinct xs → (Contains xs x → ⊥) → AreDistinct (x ∷ xs)
heads x xs distinct none zero zero lt below = absurd (omega (arith, lt))
heads x xs distinct none zero (suc k) lt below = λ same. none (k, omega (arith, below), sym (get_or_default xs k 0 x (omega (arith, below))) ∙ sym same)
heads x xs distinct none (suc j) zero lt below = absurd (omega (arith, lt))
heads x xs distinct none (suc j) (suc k) lt below = distinct j k (omega (arith, lt)) (omega (arith, below))

pub distinct_nonzero : (xs : List ℕ) → ((j k : ℕ) → j < k → k < length xs → get_or xs j 0 ≢ 0 → get_or xs j 0 ≢ get_or xs k 0) → AreDistinct (nonzero xs)
distinct_nonzero [] differ j k lt below = absurd (omega (arith, lt, below))
distinct_nonzero (x ∷ xs) differ j k lt below =
    let rest = distinct_nonzero xs (λ j k lt below. differ (suc j) (suc k) (omega (arith, lt)) (omega (arith, below))) in
    let all : AreDistinct (nonzero (x ∷ xs)) = elim (cases_eq x 0) [
      | inl none ↦
          let gone : nonzero (x ∷ xs) ≡ nonzero xs = ap (λ (y : ℕ). nonzero (y ∷ xs)) none in
          subst AreDistinct (sym gone) rest
      | inr some ↦ subst AreDistinct (sym (nonzero-append (x ∷ []) xs ∙ ap (λ (l : List ℕ). l ++ nonzero xs) (one_number x some))) (heads x (nonzero xs) rest (λ has.
          let at = (was_there xs x has).0 in
          differ zero (suc at.0) (omega arith) (omega (arith, at.1)) some (sym at.2 ∙ get_or_default xs at.0 x 0 at.1)))
    ] in
    all j k lt below

-- a list that has no position twice has no sector twice
pub names_distinct : (number : BlockPosition → ℕ) (ps : List BlockPosition) → Numbered number 0 ps → ((p : BlockPosition) → Contains ps p → IsPosition p) → (content : Image) (e : Entry) → IsBody content e → AreDistinct (nonzero (map (named content e) ps))
unfolding Numbered
names_distinct number ps numbers are content e body = distinct_nonzero (map (named content e) ps) (λ j k lt below some same.
    let g = named content e in
    let long = length-map ps g in
    let k_in : k < length ps = omega (arith, below, long) in
    let j_in : j < length ps = omega (arith, lt, k_in) in
    let p = get_or ps j indirect_block in
    let q = get_or ps k indirect_block in
    let at_j : get_or (map g ps) j 0 ≡ g p = get_or-map g ps j indirect_block 0 j_in in
    let at_k : get_or (map g ps) k 0 ≡ g q = get_or-map g ps k indirect_block 0 k_in in
    let one : p ≡ q = body.distinct p q (are p (Contains-get_or ps j indirect_block j_in)) (are q (Contains-get_or ps k indirect_block k_in)) (λ none. some (at_j ∙ none)) (sym at_j ∙ same ∙ at_k) in
    let both : 0 + j ≡ 0 + k = sym (numbers j j_in) ∙ ap number one ∙ numbers k k_in in
    omega (arith, lt, both))

pub names_none_twice : (content : Image) (e : Entry) → IsBody content e → AreDistinct (sectors_named content e)
names_none_twice = names_distinct number_of every_position numbered_places every_is

-- ---- distinct numbers of a range are no more than it has

differs : (a b : ℕ) → a ≢ b → eqb a b ≡ false
differs a b apart = ne_eqb a b apart

same_number : (a b : ℕ) → eqb a b ≡ true → a ≡ b
same_number a b test = eqb-true a b test

differs_from : (x : ℕ) (xs : List ℕ) → ((k : ℕ) → k < length xs → x ≢ get_or xs k 0) → AllByRecursion (λ y. eqb x y ≡ false) xs
differs_from x [] apart = tt
differs_from x (y ∷ xs) apart = (differs x y (apart zero (omega arith)), differs_from x xs (λ k lt. apart (suc k) (omega (arith, lt))))

by_recursion : (xs : List ℕ) → AreDistinct xs → IsDistinct eqb xs
unfolding IsDistinct
by_recursion [] distinct = tt
by_recursion (x ∷ xs) distinct = (differs_from x xs (λ k lt. distinct zero (suc k) (omega arith) (omega (arith, lt))), by_recursion xs (λ j k lt below. distinct (suc j) (suc k) (omega (arith, lt)) (omega (arith, below))))

pub few_in_range : (first end : ℕ) (xs : List ℕ) → AreDistinct xs → ((n : ℕ) → Contains xs n → (first ≤ n) × (n < end)) → length xs ≤ end - first
few_in_range first end xs distinct inside =
    let low : ℕ → ℕ = λ n. n - first in
    let ys = map low xs in
    let long = length-map xs low in
    let at : (k : ℕ) → k < length xs → get_or ys k 0 ≡ get_or xs k 0 - first = λ k lt. get_or-map low xs k 0 0 lt in
    let apart : AreDistinct ys = λ j k lt below same.
    let k_in : k < length xs = omega (arith, below, long) in
    let j_in : j < length xs = omega (arith, lt, k_in) in
    distinct j k lt k_in (omega (arith, at j j_in, at k k_in, same, (inside (get_or xs j 0) (Contains-get_or xs j 0 j_in)).0, (inside (get_or xs k 0) (Contains-get_or xs k 0 k_in)).0)) in
    let below = length-le_from_distinct_below ys (end - first) (by_recursion ys apart) (λ q some.
    let there = Any-from_list_any (eqb q) ys some in
    let k_in : there.0 < length xs = omega (arith, there.2, long) in
    let both = inside (get_or xs there.0 0) (Contains-get_or xs there.0 0 k_in) in
    let is : q ≡ get_or ys there.0 0 = same_number q there.1 there.4 ∙ sym there.3 ∙ get_or_default ys there.0 there.1 0 there.2 in
    omega (arith, is, at there.0 k_in, both.0, both.1)) in
    omega (arith, below, long)
