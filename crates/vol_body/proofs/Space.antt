-- How many sectors a file names, and that one is free for another.
use Rattle.std.proofs.Common.{◌≡◌, ◌≢◌, inl, inr, ◌≤◌, ◌<◌, ◌+◌, ◌-◌, ◌==◌, ℕ, zero, suc, Bool, true, false, not, cond, if◌then◌else◌, nat_lt, List, [], ◌∷◌, ◌++◌, map, take, refl, sym, ◌∙◌, ap, arith}
use Rattle.std.specs.Prelude.{count_by}
use Rattle.std.specs.List.{All, Contains, range_with_len}
use Rattle.std.proofs.lemmas.Bool.{cases_lt, eq-eqb, ne_eqb, true≢false, both_ways}
use Rattle.std.proofs.lemmas.List.Elements.{All-nil, All-cons, All-head, All-tail, All-map, All-append, All-weaker, All-from_get_or}
use Rattle.std.proofs.lemmas.Bool.Decides.{nat_tests}
use Rattle.std.proofs.lemmas.List.Sums.{sum_by-cons, sum_by-append, sum_by-take-le, count_by-le-length}
use Rattle.std.proofs.lemmas.List.FromFn.{take-map-range_with_len, length-range_with_len, get_or-range_with_len}
use Rattle.vol_sector.specs.Disk.{Image}
use Rattle.vol_inode.specs.declared.entry.Entry.{Entry}
use Rattle.vol_inode.specs.Space.{blocks_for_size, inner_blocks_for, double_blocks_for, need_of}
use Rattle.vol_body.specs.Body.{BlockPosition, data_block, indirect_block, inner_block, double_indirect_block, triple_indirect_block, IsPosition, first_served, named, positions_of}
use Rattle.vol_body.specs.Change.{used_of}
use Rattle.vol_body.specs.internal.Naming.{NamesOneMore}
use Rattle.vol_body.proofs.Needed.{parts_to, indirect_to, inner_to, double_to, triple_to, place_there, length-positions_of}
use Rattle.vol_body.proofs.OneMore.{named_now, names_by_pointers}
use Rattle.vol_inode.specs.declared.version.TheConstants.{LARGEST_SIZE}

-- what a test counts, one more element in front
count_cons : {X : Type 0} (f : X → Bool) (x : X) (xs : List X) → count_by f (x ∷ xs) ≡ cond (f x) 1 0 + count_by f xs
count_cons f x xs = sum_by-cons (λ y. cond (f y) 1 0) x xs

one_or_none : (b c : Bool) → (b ≡ true → c ≡ true) → cond {A = ℕ} b 1 0 ≤ cond {A = ℕ} c 1 0
one_or_none true true only = omega arith
one_or_none true false only = absurd (true≢false (sym (only refl)))
one_or_none false true only = omega arith
one_or_none false false only = omega arith

module _ {X : Type 0} (f g : X → Bool) where
  count_le : (xs : List X) → All (λ x. f x ≡ true → g x ≡ true) xs → count_by f xs ≤ count_by g xs
  count_le [] all = omega arith
  count_le (x ∷ xs) all =
      let here = one_or_none (f x) (g x) (All-head (λ y. f y ≡ true → g y ≡ true) x xs all) in
      let rest = count_le xs (All-tail (λ y. f y ≡ true → g y ≡ true) x xs all) in
      omega (arith, count_cons f x xs, count_cons g x xs)

  -- a test that passes what another passes, and one more
  pub count_more : (xs : List X) → All (λ x. f x ≡ true → g x ≡ true) xs → (x : X) → Contains xs x → f x ≡ false → g x ≡ true → count_by f xs + 1 ≤ count_by g xs
  count_more [] all x there fails passes = absurd (omega (arith, there.1))
  count_more (y ∷ xs) all x (zero, lt, is) fails passes =
      let rest = count_le xs (All-tail (λ z. f z ≡ true → g z ≡ true) y xs all) in
      let none : cond {A = ℕ} (f y) 1 0 ≡ 0 = ap (λ (z : X). cond {A = ℕ} (f z) 1 0) is ∙ ap (λ (b : Bool). cond {A = ℕ} b 1 0) fails in
      let one : cond {A = ℕ} (g y) 1 0 ≡ 1 = ap (λ (z : X). cond {A = ℕ} (g z) 1 0) is ∙ ap (λ (b : Bool). cond {A = ℕ} b 1 0) passes in
      omega (arith, count_cons f y xs, count_cons g y xs)
  count_more (y ∷ xs) all x (suc k, lt, is) fails passes =
      let here = one_or_none (f y) (g y) (All-head (λ z. f z ≡ true → g z ≡ true) y xs all) in
      let rest = count_more xs (All-tail (λ z. f z ≡ true → g z ≡ true) y xs all) x (k, omega arith, is) fails passes in
      omega (arith, count_cons f y xs, count_cons g y xs)

-- the positions of a file that isn't too long are such
range_below : (count bound : ℕ) → count ≤ bound → All (λ (j : ℕ). j < bound) (range_with_len 0 count)
range_below count bound le = All-from_get_or (λ (j : ℕ). j < bound) (range_with_len 0 count) 0 (λ i lt.
    let short : i < count = omega (arith, length-range_with_len 0 count) in
    omega (arith, get_or-range_with_len 0 count i 0 short))

pub are_places : (size : ℕ) → size ≤ LARGEST_SIZE → All IsPosition (positions_of size)
are_places size small = by_count (blocks_for_size size) (omega (arith, small))
  where
    either : (b : Bool) (p : BlockPosition) → IsPosition p → All IsPosition (if b then p ∷ [] else [])
    either true p there = All-cons IsPosition p [] there (All-nil IsPosition)
    either false p there = All-nil IsPosition

    by_count : (count : ℕ) → count ≤ 2113722 → All IsPosition ((((parts_to count ++ indirect_to count) ++ inner_to count) ++ double_to count) ++ triple_to count)
    by_count count le =
        let n = inner_blocks_for (count - 186) in
        let m = double_blocks_for (count - 186) in
        let parts : All IsPosition (parts_to count) = All-map IsPosition data_block (range_with_len 0 count) (range_below count 2113722 le) in
        let inner : All IsPosition (inner_to count) = All-map IsPosition inner_block (range_with_len 0 n) (range_below n 16512 (omega (arith, le))) in
        let double : All IsPosition (double_to count) = All-map IsPosition double_indirect_block (range_with_len 0 m) (range_below m 129 (omega (arith, le))) in
        All-append IsPosition (((parts_to count ++ indirect_to count) ++ inner_to count) ++ double_to count) (triple_to count)
        (All-append IsPosition ((parts_to count ++ indirect_to count) ++ inner_to count) (double_to count)
        (All-append IsPosition (parts_to count ++ indirect_to count) (inner_to count)
        (All-append IsPosition (parts_to count) (indirect_to count) parts (either (nat_lt 58 count) indirect_block tt)) inner) double) (either (nat_lt 16570 count) triple_indirect_block tt)

-- the test of `used_of`
names_one : (n : ℕ) → n ≢ 0 → not (n == 0) ≡ true
names_one n some = ap not (ne_eqb n 0 some)

names_none : (n : ℕ) → n ≡ 0 → not (n == 0) ≡ false
names_none n none = ap not (eq-eqb n 0 none)

-- it names at least one more
pub used_more : (content after : Image) (e changed : Entry) (p : BlockPosition) (n : ℕ) → NamesOneMore content after e changed p n → named content e p ≡ 0 → n ≢ 0 → first_served p < blocks_for_size e.size → e.size ≤ LARGEST_SIZE
    → used_of content e + 1 ≤ used_of after changed
used_more content after e changed p n more none some serves small =
    let f = λ (q : BlockPosition). not (named content e q == 0) in
    let g = λ (q : BlockPosition). not (named after changed q == 0) in
    let all : All (λ q. f q ≡ true → g q ≡ true) (positions_of e.size) = All-weaker IsPosition (λ q. f q ≡ true → g q ≡ true) keeps (positions_of e.size) (are_places e.size small) in
    let size : used_of after changed ≡ count_by g (positions_of e.size) = ap (λ (k : ℕ). count_by g (positions_of k)) more.size in
    let more_count = count_more f g (positions_of e.size) all p (place_there e.size p serves) (names_none (named content e p) none) (names_one (named after changed p) (λ is. some (sym more.one ∙ is))) in
    omega (arith, size, more_count)
  where
    keeps : (q : BlockPosition) → IsPosition q → not (named content e q == 0) ≡ true → not (named after changed q == 0) ≡ true
    keeps q there is = names_one (named after changed q) (λ zero. elim (named_now content after e changed p n more q there) [
      | inl one ↦ some (sym one ∙ zero)
      | inr same ↦ both_ways (not (named content e q == 0)) (names_none (named content e q) (sym same ∙ zero)) is
    ])

-- it names fewer than it needs, where a position names none
pub some_place : (content : Image) (e : Entry) (p : BlockPosition) → named content e p ≡ 0 → first_served p < blocks_for_size e.size → used_of content e + 1 ≤ need_of e.size
some_place content e p none serves =
    let f = λ (q : BlockPosition). not (named content e q == 0) in
    let all : All (λ q. f q ≡ true → true ≡ true) (positions_of e.size) = All-from_get_or (λ q. f q ≡ true → true ≡ true) (positions_of e.size) indirect_block (λ i lt is. refl) in
    let more = count_more f (λ q. true) (positions_of e.size) all p (place_there e.size p serves) (names_none (named content e p) none) refl in
    omega (arith, more, count_by-le-length (λ q. true) (positions_of e.size), length-positions_of e.size)

-- where the space is reserved, a sector is free for such a position
pub some_free : (content : Image) (e : Entry) (p : BlockPosition) (free : ℕ) → need_of e.size ≤ free + used_of content e → named content e p ≡ 0 → first_served p < blocks_for_size e.size → 0 < free
some_free content e p free reserved none serves = omega (arith, some_place content e p none serves)

-- A longer file names as many, or more.
count_part : {X : Type 0} (f : X → Bool) (g : ℕ → X) (a b : ℕ) → a ≤ b → count_by f (map g (range_with_len 0 a)) ≤ count_by f (map g (range_with_len 0 b))
count_part f g a b le =
    let all = map g (range_with_len 0 b) in
    let some = sum_by-take-le (λ x. cond (f x) 1 0) all a in
    let front : count_by f (take a all) ≡ count_by f (map g (range_with_len 0 a)) = ap (count_by f) (take-map-range_with_len g 0 b a le) in
    omega (arith, some, front)

count_append : {X : Type 0} (f : X → Bool) (xs ys : List X) → count_by f (xs ++ ys) ≡ count_by f xs + count_by f ys
count_append f xs ys = sum_by-append (λ x. cond (f x) 1 0) xs ys

pub count_grown : (f : BlockPosition → Bool) (a b : ℕ) → a ≤ b
    → count_by f ((((parts_to a ++ indirect_to a) ++ inner_to a) ++ double_to a) ++ triple_to a) ≤ count_by f ((((parts_to b ++ indirect_to b) ++ inner_to b) ++ double_to b) ++ triple_to b)
count_grown f a b le =
    let in_parts = count_part f data_block a b le in
    let in_indirect = either f 58 a b indirect_block le in
    let in_inner = count_part f inner_block (inner_blocks_for (a - 186)) (inner_blocks_for (b - 186)) (omega (arith, le)) in
    let in_double = count_part f double_indirect_block (double_blocks_for (a - 186)) (double_blocks_for (b - 186)) (omega (arith, le)) in
    let in_triple = either f 16570 a b triple_indirect_block le in
    omega (arith, in_parts, in_indirect, in_inner, in_double, in_triple, parted a, parted b)
  where
    parted : (c : ℕ) → count_by f ((((parts_to c ++ indirect_to c) ++ inner_to c) ++ double_to c) ++ triple_to c)
        ≡ count_by f (parts_to c) + count_by f (indirect_to c) + count_by f (inner_to c) + count_by f (double_to c) + count_by f (triple_to c)
    parted c = omega (
      arith,
      count_append f (((parts_to c ++ indirect_to c) ++ inner_to c) ++ double_to c) (triple_to c),
      count_append f ((parts_to c ++ indirect_to c) ++ inner_to c) (double_to c),
      count_append f (parts_to c ++ indirect_to c) (inner_to c),
      count_append f (parts_to c) (indirect_to c),
    )

    either : (f : BlockPosition → Bool) (n a b : ℕ) (p : BlockPosition) → a ≤ b → count_by f (if nat_lt n a then p ∷ [] else []) ≤ count_by f (if nat_lt n b then p ∷ [] else [])
    either f n a b p le = elim (cases_lt n a) [
      | inl lt ↦
          let e : count_by f (if nat_lt n a then p ∷ [] else []) ≡ count_by f (p ∷ []) = ap (count_by f) (taken n a (p ∷ []) lt) in
          let g : count_by f (if nat_lt n b then p ∷ [] else []) ≡ count_by f (p ∷ []) = ap (count_by f) (taken n b (p ∷ []) (omega arith)) in
          omega (arith, e, g)
      | inr short ↦
          let e : count_by f (if nat_lt n a then p ∷ [] else []) ≡ count_by f [] = ap (count_by f) (left n a (p ∷ []) short) in
          omega (arith, e)
    ]
      where
        taken : (n c : ℕ) (xs : List BlockPosition) → n < c → (if nat_lt n c then xs else []) ≡ xs
        taken n c xs lt = grind (arith, nat_tests)

        left : (n c : ℕ) (xs : List BlockPosition) → c ≤ n → (if nat_lt n c then xs else []) ≡ []
        left n c xs le = grind (arith, nat_tests)

pub used_grown : (content : Image) (e : Entry) (size : ℕ) → e.size ≤ size → used_of content e ≤ used_of content (record e { size = size })
used_grown content e size le =
    let f = λ (p : BlockPosition). not (named content e p == 0) in
    let g = λ (p : BlockPosition). not (named content (record e { size = size }) p == 0) in
    let grown = count_grown f (blocks_for_size e.size) (blocks_for_size size) (omega arith) in
    let same : count_by g (positions_of size) ≡ count_by f (positions_of size) = same_count g f (λ p. ap (λ (n : ℕ). not (n == 0)) (names_by_pointers content e (record e { size = size }) p refl)) (positions_of size) in
    omega (arith, grown, same)
  where
    same_count : (g f : BlockPosition → Bool) → ((p : BlockPosition) → g p ≡ f p) → (ps : List BlockPosition) → count_by g ps ≡ count_by f ps
    same_count g f same [] = refl
    same_count g f same (p ∷ ps) =
        let here : cond {A = ℕ} (g p) 1 0 ≡ cond {A = ℕ} (f p) 1 0 = ap (λ (b : Bool). cond {A = ℕ} b 1 0) (same p) in
        let rest = same_count g f same ps in
        omega (arith, here, rest, count_cons g p ps, count_cons f p ps)

-- a file of the same size that names the same sectors has the same space
pub used_same : (content after : Image) (e changed : Entry) (free : ℕ) → e.size ≤ LARGEST_SIZE → changed.size ≡ e.size → ((p : BlockPosition) → IsPosition p → named after changed p ≡ named content e p)
    → need_of e.size ≤ free + used_of content e → need_of changed.size ≤ free + used_of after changed
used_same content after e changed free small size names reserved =
    let f = λ (q : BlockPosition). not (named content e q == 0) in
    let g = λ (q : BlockPosition). not (named after changed q == 0) in
    let fewer = count_le f g (positions_of e.size) (All-weaker IsPosition (λ q. f q ≡ true → g q ≡ true) keeps (positions_of e.size) (are_places e.size small)) in
    let used : used_of after changed ≡ count_by g (positions_of e.size) = ap (λ (k : ℕ). count_by g (positions_of k)) size in
    let need : need_of changed.size ≡ need_of e.size = ap need_of size in
    omega (arith, fewer, used, need, reserved)
  where
    keeps : (q : BlockPosition) → IsPosition q → not (named content e q == 0) ≡ true → not (named after changed q == 0) ≡ true
    keeps q there is = ap (λ (n : ℕ). not (n == 0)) (names q there) ∙ is

-- a file of the same size that names the same sectors uses as many
pub used_kept : (content after : Image) (e changed : Entry) → e.size ≤ LARGEST_SIZE → changed.size ≡ e.size → ((p : BlockPosition) → IsPosition p → named after changed p ≡ named content e p) → used_of content e ≤ used_of after changed
used_kept content after e changed small size names =
    let f = λ (q : BlockPosition). not (named content e q == 0) in
    let g = λ (q : BlockPosition). not (named after changed q == 0) in
    let fewer = count_le f g (positions_of e.size) (All-weaker IsPosition (λ q. f q ≡ true → g q ≡ true) keeps (positions_of e.size) (are_places e.size small)) in
    let used : used_of after changed ≡ count_by g (positions_of e.size) = ap (λ (k : ℕ). count_by g (positions_of k)) size in
    omega (arith, fewer, used)
  where
    keeps : (q : BlockPosition) → IsPosition q → not (named content e q == 0) ≡ true → not (named after changed q == 0) ≡ true
    keeps q there is = ap (λ (n : ℕ). not (n == 0)) (names q there) ∙ is
