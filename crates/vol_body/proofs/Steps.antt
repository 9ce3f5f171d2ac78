-- Steps of a write.
use Rattle.std.proofs.Common.{◌≡◌, ◌≢◌, ◌⊎◌, inl, inr, ◌≤◌, ◌<◌, ◌+◌, ◌-◌, ◌*◌, ◌/◌, ◌%◌, ◌==◌, ℕ, zero, suc, Bool, true, false, if◌then◌else◌, nat_lt, List, length, drop, get_or, refl, sym, replicate, Result, Ok, Err, OnErr, ◌∙◌, ap, subst, arith}
use Rattle.std.proofs.lemmas.Bool.{cases_lt, cases_Bool, false≢true}
use Rattle.std.proofs.lemmas.List.{get_or_past}
use Rattle.std.proofs.lemmas.Bool.Decides.{nat_tests}
use Rattle.byteorder.specs.Endian.{little_number}
use Rattle.vol_sector.specs.Disk.{Image, put}
use Rattle.vol_sector.specs.declared.device.Device.{Ghosts}
use Rattle.vol_log.specs.Log.{is_staged}
use Rattle.vol_log.specs.declared.log.Log.{Log}
use Rattle.vol_alloc.specs.Alloc.{first_of, end_of, taken_of}
use Rattle.vol_alloc.specs.declared.sectors.Alloc.{Alloc}
use Rattle.vol_inode.specs.declared.entry.Entry.{Entry}
use Rattle.vol_body.specs.Body.{BlockPosition, data_block, indirect_block, inner_block, double_indirect_block, triple_indirect_block, IsPosition, named, number_in, block_bytes}
use Rattle.vol_body.specs.internal.Writing.{ListedAt, IsBlank, Mirrors, IsReady, SamePlace, ChangesPositions, IsBlockIn, IsPointer, HasBlocks, OnlyPuts, SameRange, segment, staged_count}
use Rattle.vol_body.proofs.Listed.{number_of_bytes}
use Rattle.vol_body.proofs.Changes.{takes_same, stays_same}
use Rattle.vol_body.proofs.Places.{part_listed, part_later, bytes_there}
use Rattle.vol_body.proofs.OneMore.{write_named}
use Rattle.vol_body.proofs.Added.{writes_over, changes_twice}
use Rattle.vol_log.specs.declared.layout.TheConstants.{FIRST_AFTER_LOG}

pub put_here : (n : ℕ) (bytes : List ℕ) (content : Image) → put n bytes content n ≡ bytes
put_here n bytes content = pick n bytes (content n)
  where
    pick : (n : ℕ) (x y : List ℕ) → (if n == n then x else y) ≡ x
    pick n x y = grind (arith, nat_tests)

pub put_other : (n k : ℕ) (bytes : List ℕ) (content : Image) → k ≢ n → put n bytes content k ≡ content k
put_other n k bytes content other = pick k bytes (content k) other
  where
    pick : (k : ℕ) (x y : List ℕ) → k ≢ n → (if k == n then x else y) ≡ y
    pick k x y other = grind (arith, nat_tests)

-- a taken sector is in the range
pub taken_range : (a : Alloc) (n : ℕ) → taken_of a n ≡ true → (first_of a ≤ n) × (n < end_of a)
taken_range a n is = elim (cases_lt n a.first) [
  | inl before ↦ absurd (false≢true (sym (first_one n a.first (get_or a.taken.items (n - a.first) false) before) ∙ is))
  | inr from ↦ (
    from,
    elim (cases_lt (n - a.first) (length a.taken.items)) [
      | inl within ↦ omega (arith, a.size)
      | inr past ↦ absurd (false≢true (sym (get_or_past a.taken.items (n - a.first) false past) ∙ sym (second_one n a.first (get_or a.taken.items (n - a.first) false) from) ∙ is))
    ],
  )
]
  where
    first_one : (n m : ℕ) (b : Bool) → n < m → (if nat_lt n m then false else b) ≡ false
    first_one n m b lt = grind (arith, nat_tests)

    second_one : (n m : ℕ) (b : Bool) → m ≤ n → (if nat_lt n m then false else b) ≡ b
    second_one n m b le = grind (arith, nat_tests)

-- what a sector lists that isn't touched
same_numbers : (a b : Alloc) (content after : Image) (e : Entry) (Touched : BlockPosition → Type 0) (h : BlockPosition) (i : ℕ) → ChangesPositions a b content after e e Touched → IsPosition h → (Touched h → ⊥) → named after e h ≡ named content e h
    → number_in after (named after e h) i ≡ number_in content (named content e h) i
same_numbers a b content after e Touched h i changes there not same =
    ap (λ (n : ℕ). number_in after n i) same
    ∙ number_of_bytes after (named content e h) i
    ∙ ap (λ (l : List ℕ). little_number 4 (drop (4 * i) l)) (ap (block_bytes after) (sym same) ∙ (changes.stays h there not).bytes)
    ∙ sym (number_of_bytes content (named content e h) i)

-- the sector that another position is listed in keeps its position
pub holder_stays : (a b : Alloc) (content after : Image) (e : Entry) (q p : BlockPosition) (i : ℕ) → ListedAt q i p → IsPosition q → ChangesPositions a b content after e e (λ x. (x ≡ p) ⊎ (x ≡ q)) → named after e q ≡ named content e q
holder_stays a b content after e indirect_block p i at there changes = refl
holder_stays a b content after e triple_indirect_block p i at there changes = refl
holder_stays a b content after e (data_block j) p i at there changes = absurd at
holder_stays a b content after e (double_indirect_block zero) p i at there changes = refl
holder_stays a b content after e (double_indirect_block (suc m)) p i at there changes = same_numbers a b content after e (λ x. (x ≡ p) ⊎ (x ≡ double_indirect_block (suc m))) triple_indirect_block m changes tt (λ touched. apart p at touched) refl
  where
    apart : (p : BlockPosition) → ListedAt (double_indirect_block (suc m)) i p → (triple_indirect_block ≡ p) ⊎ (triple_indirect_block ≡ double_indirect_block (suc m)) → ⊥
    apart (inner_block k) at (inl is) = cc
    apart (data_block j) at (inl is) = at
    apart indirect_block at (inl is) = at
    apart (double_indirect_block d) at (inl is) = at
    apart triple_indirect_block at (inl is) = at
    apart p at (inr is) = cc
holder_stays a b content after e (inner_block k) p i at there changes =
    let below : k / 128 < 129 = omega (arith, there) in
    let top : named after e (double_indirect_block (k / 128)) ≡ named content e (double_indirect_block (k / 128)) = (changes.stays (double_indirect_block (k / 128)) below (λ touched. apart p at (k / 128) touched)).name in
    same_numbers a b content after e (λ x. (x ≡ p) ⊎ (x ≡ inner_block k)) (double_indirect_block (k / 128)) (k % 128) changes below (λ touched. apart p at (k / 128) touched) top
  where
    apart : (p : BlockPosition) → ListedAt (inner_block k) i p → (d : ℕ) → (double_indirect_block d ≡ p) ⊎ (double_indirect_block d ≡ inner_block k) → ⊥
    apart (data_block j) at d (inl is) = cc
    apart indirect_block at d (inl is) = at
    apart (inner_block j) at d (inl is) = at
    apart (double_indirect_block j) at d (inl is) = at
    apart triple_indirect_block at d (inl is) = at
    apart p at d (inr is) = cc

pub staged_here : (n : ℕ) (old new : ℕ → Bool) → ((k : ℕ) → new k ≡ (if k == n then true else old k)) → new n ≡ true
staged_here n old new is = is n ∙ pick n (old n)
  where
    pick : (n : ℕ) (b : Bool) → (if n == n then true else b) ≡ true
    pick n b = grind (arith, nat_tests)

pub staged_still : (n k : ℕ) (old new : ℕ → Bool) → ((k : ℕ) → new k ≡ (if k == n then true else old k)) → old k ≡ true → new k ≡ true
staged_still n k old new is was = is k ∙ pick n k (old k) was
  where
    pick : (n k : ℕ) (b : Bool) → b ≡ true → (if k == n then true else b) ≡ true
    pick n k b was = grind (arith, nat_tests)

module _ {D : Type 0} {g : Ghosts D} where
  pub puts_then : (a b c : Log D g) → OnlyPuts a b → OnlyPuts b c → OnlyPuts a c
  puts_then a b c one two = record {
    device = two.device ∙ one.device;
    sectors = two.sectors ∙ one.sectors;
    failed = two.failed ∙ one.failed;
    staged = λ n is. two.staged n (one.staged n is);
  }

  pub puts_none : (a : Log D g) → OnlyPuts a a
  puts_none a = record { device = refl; sectors = refl; failed = refl; staged = λ n is. is }

  pub placed_most : (log : Log D g) (n : ℕ) → staged_count log n ≤ 1
  placed_most log n = most (n == 0) (is_staged log n)
    where
      most : (b c : Bool) → (if b then 0 else (if c then 1 else 0)) ≤ 1
      most true c = omega arith
      most false true = omega arith
      most false false = omega arith

  pub placed_one : (log : Log D g) (n : ℕ) → n ≢ 0 → is_staged log n ≡ true → staged_count log n ≡ 1
  placed_one log n some is = pick n (is_staged log n) some is
    where
      pick : (n : ℕ) (b : Bool) → n ≢ 0 → b ≡ true → ◌≡◌ {A = ℕ} (if n == 0 then 0 else (if b then 1 else 0)) 1
      pick n b some is = grind (arith, nat_tests)

  -- what has a position keeps it
  pub placed_stays : (old new : Log D g) (n : ℕ) → (is_staged old n ≡ true → is_staged new n ≡ true) → staged_count old n ≤ staged_count new n
  placed_stays old new n stays = pick (n == 0) (is_staged old n) (is_staged new n) stays
    where
      pick : (z b c : Bool) → (b ≡ true → c ≡ true) → (if z then 0 else (if b then 1 else 0)) ≤ (if z then 0 else (if c then 1 else 0))
      pick true b c stays = omega arith
      pick false false c stays = omega arith
      pick false true true stays = omega arith
      pick false true false stays = absurd (false≢true (stays refl))

  -- a sector that is staged takes a position, or had one
  pub room_placed : (old new : Log D g) (n room now : ℕ) → n ≢ 0 → is_staged new n ≡ true → now ≡ (if is_staged old n then room else room - 1) → room + staged_count old n ≤ now + staged_count new n
  room_placed old new n room now some is left =
      let one = placed_one new n some is in
      let least = count n (is_staged old n) room now some left in
      omega (arith, one, least)
    where
      count : (n : ℕ) (b : Bool) (room now : ℕ) → n ≢ 0 → now ≡ (if b then room else room - 1) → room + (if n == 0 then 0 else (if b then 1 else 0)) ≤ now + 1
      count n b room now some left = grind (arith, nat_tests)

-- the bytes of a position, from what is held of it in memory
pub bytes_mirrored : (content : Image) (e : Entry) (p : BlockPosition) (number : ℕ) (image : List ℕ) → Mirrors content e p number image → block_bytes content (named content e p) ≡ image
bytes_mirrored content e p number image mirror = ap (block_bytes content) (sym mirror.names) ∙ sym mirror.bytes

-- a change at fewer positions
pub changes_wider : (a b : Alloc) (content after : Image) (e changed : Entry) (One Other : BlockPosition → Type 0) → ((p : BlockPosition) → One p → Other p) → ChangesPositions a b content after e changed One → ChangesPositions a b content after e changed Other
changes_wider a b content after e changed One Other inside changes = record {
  ready = changes.ready;
  others = changes.others;
  takes = changes.takes;
  stays = λ p there not. changes.stays p there (λ touched. not (inside p touched));
  size = changes.size;
  count = changes.count;
}

-- a pointer sector that lists data blocks
pub not_a_part : (q : BlockPosition) (i j k : ℕ) → ListedAt q i (data_block j) → q ≡ data_block k → ⊥
not_a_part indirect_block i j k at is = cc
not_a_part (double_indirect_block d) i j k at is = at
not_a_part triple_indirect_block i j k at is = at
not_a_part (inner_block l) i j k at is = cc
not_a_part (data_block l) i j k at is = at

-- the number of a data block stands in the pointer sector that lists it
pub part_mirrored : (content : Image) (e : Entry) (q : BlockPosition) (i j number : ℕ) (image : List ℕ) → ListedAt q i (data_block j) → i < 128 → Mirrors content e q number image → little_number 4 (drop (4 * i) image) ≡ named content e (data_block j)
part_mirrored content e q i j number image at lt mirror =
    ap (λ (l : List ℕ). little_number 4 (drop (4 * i) l)) (mirror.bytes ∙ ap (block_bytes content) mirror.names)
    ∙ sym (number_of_bytes content (named content e q) i) ∙ sym (by_place q at)
  where
    by_place : (q : BlockPosition) → ListedAt q i (data_block j) → named content e (data_block j) ≡ number_in content (named content e q) i
    by_place indirect_block at =
        let place : j - 58 ≡ i = omega arith in
        part_listed content e j (omega arith) (omega arith) ∙ ap (number_in content (named content e indirect_block)) place
    by_place (inner_block k) at =
        let group : (j - 186) / 128 ≡ k = omega arith in
        let place : (j - 186) % 128 ≡ i = omega arith in
        part_later content e j (omega arith)
        ∙ ap (λ (x : ℕ). number_in content (named content e (inner_block x)) ((j - 186) % 128)) group
        ∙ ap (number_in content (named content e (inner_block k))) place
    by_place (double_indirect_block d) at = absurd at
    by_place triple_indirect_block at = absurd at
    by_place (data_block k) at = absurd at

-- a data block's sector is written over
pub part_over : (a : Alloc) (content after : Image) (e : Entry) (j n : ℕ) (image : List ℕ) → IsReady a content e → j < 2113722 → n ≡ named content e (data_block j) → n ≢ 0 → taken_of a n ≡ true → after ≡ put n image content
    → ChangesPositions a a content after e e (λ q. q ≡ data_block j) × (block_bytes after (named after e (data_block j)) ≡ image)
part_over a content after e j n image ready lt is some taken writes =
    let stays = λ (x : ℕ) (other : x ≢ n). ap (λ (m : Image). m x) writes ∙ put_other n x image content other in
    let range = taken_range a n taken in
    let more = write_named content after e j n ready.naming lt (sym is) some stays in (
      writes_over a content after e j n ready ready.small lt (sym is) some range.0 range.1 stays,
      ap (block_bytes after) more.one ∙ bytes_there after n some ∙ ap (λ (m : Image). m n) writes ∙ put_here n image content,
    )

-- sector 0 is no data sector
pub none_taken : (a : Alloc) → FIRST_AFTER_LOG ≤ first_of a → taken_of a 0 ≡ false
none_taken a after_log = elim (cases_Bool (taken_of a 0)) [
  | inl is ↦ absurd (omega (arith, after_log, taken_range a 0 is))
  | inr free ↦ free
]

pub part_in_more : (from to : ℕ) (p : BlockPosition) → IsBlockIn from to p → IsBlockIn from (to + 1) p
part_in_more from to (data_block j) there = (there.0, omega (arith, there.1))
part_in_more from to indirect_block there = there
part_in_more from to (inner_block i) there = there
part_in_more from to (double_indirect_block d) there = there
part_in_more from to triple_indirect_block there = there

pub part_in_here : (from j : ℕ) (p : BlockPosition) → from ≤ j → p ≡ data_block j → IsBlockIn from (j + 1) p
part_in_here from j p le is = let here : IsBlockIn from (j + 1) (data_block j) = (le, omega arith) in subst (IsBlockIn from (j + 1)) (sym is) here

-- a loop ends after the last data block
pub part_in_all : (from to j : ℕ) (p : BlockPosition) → j - from ≤ to - from → IsBlockIn from j p → IsBlockIn from to p
part_in_all from to j (data_block k) few there = (there.0, omega (arith, there.0, there.1))
part_in_all from to j indirect_block few there = there
part_in_all from to j (inner_block i) few there = there
part_in_all from to j (double_indirect_block d) few there = there
part_in_all from to j triple_indirect_block few there = there

-- one more data block has its bytes
pub parts_more : (b c : Alloc) (c1 c2 : Image) (e1 e2 : Entry) (Touched : BlockPosition → Type 0) (from j : ℕ) (image : ℕ → List ℕ) → ChangesPositions b c c1 c2 e1 e2 Touched → ((k : ℕ) → k < j → Touched (data_block k) → ⊥) → j < 2113722
    → HasBlocks c1 e1 from j image → block_bytes c2 (named c2 e2 (data_block j)) ≡ image j → HasBlocks c2 e2 from (j + 1) image
parts_more b c c1 c2 e1 e2 Touched from j image changes apart small so_far here k le lt = elim (cases_lt k j) [
  | inl before ↦ (changes.stays (data_block k) (omega arith) (apart k before)).bytes ∙ so_far k le before
  | inr same ↦
      let is : k ≡ j = omega arith in
      ap (λ (x : ℕ). block_bytes c2 (named c2 e2 (data_block x))) is ∙ here ∙ sym (ap image is)
]

pub parts_shorter : (content : Image) (e : Entry) (from to j : ℕ) (image : ℕ → List ℕ) → to ≤ j → HasBlocks content e from j image → HasBlocks content e from to image
parts_shorter content e from to j image le parts k from_k lt = parts k from_k (omega arith)

-- the pointer sector of a segment lists its data blocks
pub segment_lists : (g start j : ℕ) → start ≡ 58 + 128 * g → start ≤ j → ListedAt (segment g) (j - start) (data_block j)
segment_lists zero start j is le = omega arith
segment_lists (suc k) start j is le = omega arith

pub segment_place : (g start to j : ℕ) → start ≡ 58 + 128 * g → start ≤ j → j < 2113722 → IsPosition (segment g)
segment_place zero start to j is le lt = tt
segment_place (suc k) start to j is le lt = omega arith

pub segment_other : (g j : ℕ) → segment g ≡ data_block j → ⊥
segment_other zero j is = cc
segment_other (suc k) j is = cc

pub range_then : (a b c : Alloc) → SameRange a b → SameRange b c → SameRange a c
range_then a b c one two = record { first = two.first ∙ one.first; end = two.end ∙ one.end }

-- one change after another, over the same range of sectors
pub changes_then : (a b c : Alloc) (c0 c1 c2 : Image) (e0 e1 e2 : Entry) (One Other Both : BlockPosition → Type 0) → FIRST_AFTER_LOG ≤ first_of a → SameRange a b → SameRange b c
    → ((p : BlockPosition) → One p → Both p) → ((p : BlockPosition) → Other p → Both p) → ChangesPositions a b c0 c1 e0 e1 One → ChangesPositions b c c1 c2 e1 e2 Other → ChangesPositions a c c0 c2 e0 e2 Both
changes_then a b c c0 c1 c2 e0 e1 e2 One Other Both after_log range further one_in other_in one other =
    let still : FIRST_AFTER_LOG ≤ first_of c = omega (arith, after_log, range.first, further.first) in
    changes_twice a b c c0 c1 c2 e0 e1 e2 One Other Both (none_taken a after_log) (none_taken c still) range.first range.end one_in other_in one other

-- nothing changes
pub changes_none : (a : Alloc) (content : Image) (e : Entry) (Touched : BlockPosition → Type 0) → IsReady a content e → ChangesPositions a a content content e e Touched
changes_none a content e Touched ready = record {
  ready = ready;
  others = λ place. stays_same place (first_of a) (end_of a) (taken_of a) content e;
  takes = takes_same (taken_of a) content content e e ready.taken (λ p there. refl);
  stays = λ p there not. record { name = refl; bytes = refl };
  size = refl;
  count = omega arith;
}

pub blank_zeros : (p : BlockPosition) → IsBlank p (replicate 512 0)
blank_zeros (data_block j) = tt
blank_zeros indirect_block = refl
blank_zeros (inner_block i) = refl
blank_zeros (double_indirect_block d) = refl
blank_zeros triple_indirect_block = refl

-- of a position that names none zeros are held
pub held_zeros : (content : Image) (e : Entry) (p : BlockPosition) (number : ℕ) (image : List ℕ) → Mirrors content e p number image → number ≡ 0 → image ≡ replicate 512 0
held_zeros content e p number image mirror none = mirror.bytes ∙ ap (block_bytes content) none

-- a pointer sector is none of the data blocks, nor another one
pub segment_no_part : (from to g : ℕ) → IsBlockIn from to (segment g) → ⊥
segment_no_part from to zero there = there
segment_no_part from to (suc k) there = there

pub segment_not_lists : (d g : ℕ) → double_indirect_block d ≡ segment g → ⊥
segment_not_lists d zero is = cc
segment_not_lists d (suc k) is = cc

pub segment_not_triple : (g : ℕ) → triple_indirect_block ≡ segment g → ⊥
segment_not_triple zero is = cc
segment_not_triple (suc k) is = cc

pub segments_differ : (g : ℕ) → segment (g + 1) ≡ segment g → ⊥
segments_differ zero is = let one : 0 + 1 ≡ suc 0 = omega arith in clash (sym (ap segment one) ∙ is)
  where
    clash : inner_block 0 ≡ indirect_block → ⊥
    clash is = cc
segments_differ (suc k) is = let one : suc k + 1 ≡ suc (suc k) = omega arith in clash k (sym (ap segment one) ∙ is)
  where
    clash : (k : ℕ) → inner_block (suc k) ≡ inner_block k → ⊥
    clash k is = let same : suc k ≡ k = cc in omega arith

pub segment_is_place : (g last : ℕ) → 58 + 128 * g ≤ last → last < 2113722 → IsPosition (segment g)
segment_is_place zero last le lt = tt
segment_is_place (suc k) last le lt = omega arith

pub segment_is_pointer : (g : ℕ) (p : BlockPosition) → p ≡ segment g → IsPointer p
segment_is_pointer zero p is = subst IsPointer (sym is) tt
segment_is_pointer (suc k) p is = subst IsPointer (sym is) tt

pub lists_is_pointer : (d : ℕ) (p : BlockPosition) → p ≡ double_indirect_block d → IsPointer p
lists_is_pointer d p is = subst IsPointer (sym is) tt

pub triple_is_pointer : (p : BlockPosition) → p ≡ triple_indirect_block → IsPointer p
triple_is_pointer p is = subst IsPointer (sym is) tt

pub part_in_span : (from to first last : ℕ) (p : BlockPosition) → first ≤ from → to ≤ last + 1 → IsBlockIn from to p → IsBlockIn first (last + 1) p
part_in_span from to first last (data_block j) starts ends there = (omega (arith, there.0), omega (arith, there.1))
part_in_span from to first last indirect_block starts ends there = there
part_in_span from to first last (inner_block i) starts ends there = there
part_in_span from to first last (double_indirect_block d) starts ends there = there
part_in_span from to first last triple_indirect_block starts ends there = there

pub room_left : (staged : Bool) (room now : ℕ) → now ≡ (if staged then room else room - 1) → room ≤ now + 1
room_left true room now is = omega arith
room_left false room now is = omega arith

pub on_err : {T E : Type 0} {X : Type 0} (r : Result T E) → X → OnErr r X
on_err (Ok x) is = tt
on_err (Err e) is = is
