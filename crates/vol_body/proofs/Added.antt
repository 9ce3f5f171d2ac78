-- What taking a sector and naming it changes of a file.
use Rattle.std.proofs.Common.{◌≡◌, ◌≢◌, ◌⊎◌, inl, inr, ◌≤◌, ◌<◌, ◌+◌, ◌-◌, ◌/◌, ◌==◌, if◌then◌else◌, ℕ, suc, Bool, true, false, List, refl, sym, ◌∙◌, ap, subst, arith}
use Rattle.std.proofs.lemmas.Bool.{both_ways}
use Rattle.vol_sector.specs.Disk.{Image}
use Rattle.vol_alloc.specs.Alloc.{first_of, end_of, taken_of, free_of}
use Rattle.vol_alloc.specs.declared.sectors.Alloc.{Alloc}
use Rattle.vol_inode.specs.declared.entry.Entry.{Entry}
use Rattle.vol_inode.specs.Space.{blocks_for_size, need_of}
use Rattle.vol_body.specs.Body.{BlockPosition, data_block, indirect_block, inner_block, double_indirect_block, triple_indirect_block, IsPosition, first_served, named, block_bytes, NamesTaken, NamesOthers}
use Rattle.vol_body.specs.Change.{OthersStay}
use Rattle.vol_body.specs.internal.Naming.{IsNaming, NamesOneMore, SetsPointer, ListsOneMore}
use Rattle.vol_body.specs.internal.Writing.{PointedAt, ListedAt, IsBlank, Mirrors, IsReady, SamePlace, ChangesPositions}
use Rattle.vol_body.proofs.Changes.{stays_twice, takes_twice, takes_same}
use Rattle.vol_body.proofs.OneMore.{one_direct, one_list, one_lists, one_triple, one_listed, one_later_list, one_double_list, one_later, write_named, naming_by, naming_more, names_stay, names_taken_more, takes_one, others_stay_one, others_stay_two, places_stay, places_stay_but, places_stay_by}
use Rattle.vol_body.proofs.Places.{bytes_there}
use Rattle.vol_body.proofs.Space.{used_more, used_same, used_kept}
use Rattle.vol_inode.specs.declared.version.TheConstants.{LARGEST_SIZE}

-- a sector of the range that was free is taken
pub record TakesSector (a b : Alloc) (n : ℕ) : Type 0 where
  pub some : n ≢ 0
  pub from : first_of a ≤ n
  pub below : n < end_of a
  pub free : taken_of a n ≡ false
  pub taken : (k : ℕ) → taken_of b k ≡ (if k == n then true else taken_of a k)
  pub count : free_of b + 1 ≡ free_of a

-- a file whose sectors are taken names no free one
pub free_is_others : (taken : ℕ → Bool) (content : Image) (e : Entry) (n : ℕ) → NamesTaken taken content e → n ≢ 0 → taken n ≡ false → NamesOthers content e n
free_is_others taken content e n names some free p there is = both_ways (taken n) free (sym (ap taken is) ∙ names p there (λ none. some (sym is ∙ none)))

-- a position that serves a data block of a file that isn't too long
place_of : (p : BlockPosition) (size : ℕ) → size ≤ LARGEST_SIZE → first_served p < blocks_for_size size → IsPosition p
place_of (data_block j) size small serves = omega arith
place_of indirect_block size small serves = tt
place_of (inner_block i) size small serves = omega arith
place_of (double_indirect_block d) size small serves = omega arith
place_of triple_indirect_block size small serves = tt

-- a change by which the file names one more sector
changes_one : (a b : Alloc) (content after : Image) (e changed : Entry) (p : BlockPosition) (n : ℕ) (Touched : BlockPosition → Type 0) → NamesOneMore content after e changed p n → TakesSector a b n → IsReady a content e → e.size ≤ LARGEST_SIZE
    → named content e p ≡ 0 → first_served p < blocks_for_size e.size → ((place : ℕ) → OthersStay place (first_of a) (end_of a) (taken_of a) content after e)
    → ((q : BlockPosition) → IsPosition q → (Touched q → ⊥) → SamePlace content after e changed q) → ChangesPositions a b content after e changed Touched
changes_one a b content after e changed p n Touched more takes ready small none serves others stays =
    let fresh = free_is_others (taken_of a) content e n ready.taken takes.some takes.free in
    let there = place_of p e.size small serves in
    let used = used_more content after e changed p n more none takes.some serves small in
    let need : need_of changed.size ≡ need_of e.size = ap need_of more.size in
    record {
      ready = record {
        naming = naming_more content after e changed p n more ready.naming fresh takes.some there serves;
        taken = names_taken_more content after e changed p n more (taken_of a) (taken_of b) takes.taken ready.taken;
        space = omega (arith, need, used, takes.count, ready.space);
        small = omega (arith, more.size, small);
      };
      others = others;
      takes = takes_one content after e changed p n more (taken_of a) (taken_of b) takes.taken ready.taken takes.free none there;
      stays = stays;
      size = more.size;
      count = omega (arith, used, takes.count);
    }

-- by a pointer of the entry
pointed_more : (content after : Image) (e changed : Entry) (s n : ℕ) (p : BlockPosition) (image : List ℕ) → NamesOthers content e n → ((x : ℕ) → x ≢ n → after x ≡ content x) → SetsPointer e changed s n → after n ≡ image
    → PointedAt s p → IsBlank p image → named content e p ≡ 0 → NamesOneMore content after e changed p n
pointed_more content after e changed s n (data_block j) image others stays sets is at blank none = one_direct content after e changed n others stays j at.1 (subst (λ (k : ℕ). SetsPointer e changed k n) at.0 sets)
pointed_more content after e changed s n indirect_block image others stays sets is at blank none = one_list content after e changed n others stays (subst (λ (k : ℕ). SetsPointer e changed k n) at sets) none (is ∙ blank)
pointed_more content after e changed s n (inner_block i) image others stays sets is at blank none = absurd at
pointed_more content after e changed s n (double_indirect_block d) image others stays sets is at blank none =
    subst (λ (k : ℕ). NamesOneMore content after e changed (double_indirect_block k) n) (sym at.1)
    (one_lists content after e changed n others stays (subst (λ (k : ℕ). SetsPointer e changed k n) at.0 sets) (ap (λ (k : ℕ). named content e (double_indirect_block k)) (sym at.1) ∙ none) (is ∙ blank))
pointed_more content after e changed s n triple_indirect_block image others stays sets is at blank none = one_triple content after e changed n others stays (subst (λ (k : ℕ). SetsPointer e changed k n) at sets) none (is ∙ blank)

pub adds_pointer : (a b : Alloc) (content after : Image) (e changed : Entry) (s n : ℕ) (p : BlockPosition) (image : List ℕ) → TakesSector a b n → IsReady a content e → e.size ≤ LARGEST_SIZE
    → ((x : ℕ) → x ≢ n → after x ≡ content x) → SetsPointer e changed s n → after n ≡ image → PointedAt s p → IsBlank p image → named content e p ≡ 0 → first_served p < blocks_for_size e.size
    → ChangesPositions a b content after e changed (λ q. q ≡ p) × Mirrors after changed p n image
adds_pointer a b content after e changed s n p image takes ready small stays sets is at blank none serves =
    let fresh = free_is_others (taken_of a) content e n ready.taken takes.some takes.free in
    let more = pointed_more content after e changed s n p image fresh stays sets is at blank none in (
      changes_one a b content after e changed p n (λ q. q ≡ p) more takes ready small none serves
          (λ place. others_stay_one place (first_of a) (end_of a) (taken_of a) content after e n stays takes.from takes.below (λ taken others. both_ways (taken_of a n) takes.free taken))
          (λ q there not. record { name = more.rest q there not; bytes = places_stay content after e changed p n more fresh stays q there not }),
      record { names = sym more.one; bytes = sym is ∙ sym (bytes_there after n takes.some) },
    )

-- by a number in a pointer sector
listed_more : (content after : Image) (e : Entry) (n m i : ℕ) (q p : BlockPosition) (image : List ℕ) → IsNaming content e → NamesOthers content e n → m ≢ 0 → ListsOneMore content after m i n → after n ≡ image → i < 128
    → ListedAt q i p → IsPosition p → named content e q ≡ m → IsBlank p image → named content e p ≡ 0 → NamesOneMore content after e e p n
listed_more content after e n m i indirect_block (data_block j) image naming others some more is lt at there names blank none =
    one_listed content after e n m i naming others some more j (omega arith) (omega arith) (omega arith) names
listed_more content after e n m i (inner_block k) (data_block j) image naming others some more is lt at there names blank none =
    let group : (j - 186) / 128 ≡ k = omega arith in
    one_later content after e n m i naming others some more j (omega arith) there (omega arith) (ap (λ (x : ℕ). named content e (inner_block x)) group ∙ names)
listed_more content after e n m i (double_indirect_block d) (inner_block k) image naming others some more is lt at there names blank none =
    let holder : k / 128 ≡ d = omega arith in
    one_later_list content after e n m i naming others some more k there (omega arith) (ap (λ (x : ℕ). named content e (double_indirect_block x)) holder ∙ names) none (is ∙ blank)
listed_more content after e n m i triple_indirect_block (double_indirect_block d) image naming others some more is lt at there names blank none =
    let same : suc i ≡ d = omega (arith, at) in
    subst (λ (k : ℕ). NamesOneMore content after e e (double_indirect_block k) n) same
    (one_double_list content after e n m i naming others some more i lt refl names (ap (λ (k : ℕ). named content e (double_indirect_block k)) same ∙ none) (is ∙ blank))
listed_more content after e n m i q p image naming others some more is lt at there names blank none = absurd at

pub adds_number : (a b : Alloc) (content after : Image) (e : Entry) (n m i : ℕ) (q p : BlockPosition) (image : List ℕ) → TakesSector a b n → IsReady a content e → e.size ≤ LARGEST_SIZE
    → m ≢ 0 → first_of a ≤ m → m < end_of a → ListsOneMore content after m i n → after n ≡ image → i < 128 → ListedAt q i p → IsPosition q → m ≡ named content e q
    → IsBlank p image → named content e p ≡ 0 → first_served p < blocks_for_size e.size → ChangesPositions a b content after e e (λ x. (x ≡ p) ⊎ (x ≡ q)) × Mirrors after e p n image
adds_number a b content after e n m i q p image takes ready small some from below lists_it is lt at q_there names blank none serves =
    let fresh = free_is_others (taken_of a) content e n ready.taken takes.some takes.free in
    let there = place_of p e.size small serves in
    let more = listed_more content after e n m i q p image ready.naming fresh some lists_it is lt at there (sym names) blank none in (
      changes_one a b content after e e p n (λ x. (x ≡ p) ⊎ (x ≡ q)) more takes ready small none serves
          (λ place. others_stay_two place (first_of a) (end_of a) (taken_of a) content after e n m lists_it.stays takes.from takes.below (λ taken others. both_ways (taken_of a n) takes.free taken) from below (λ taken others. others q q_there (sym names)))
          (λ x x_there not. record { name = more.rest x x_there (λ same. not (inl same)); bytes = places_stay_but content after e e p q n m more ready.naming fresh q_there (sym names) lists_it.stays x x_there (λ same. not (inl same)) (λ same. not (inr same)) }),
      record { names = sym more.one; bytes = sym is ∙ sym (bytes_there after n takes.some) },
    )

-- a sector that a data block names is written over
pub writes_over : (a : Alloc) (content after : Image) (e : Entry) (j n : ℕ) → IsReady a content e → e.size ≤ LARGEST_SIZE → j < 2113722 → named content e (data_block j) ≡ n → n ≢ 0 → first_of a ≤ n → n < end_of a
    → ((x : ℕ) → x ≢ n → after x ≡ content x) → ChangesPositions a a content after e e (λ q. q ≡ data_block j)
writes_over a content after e j n ready small lt is some from below stays =
    let more = write_named content after e j n ready.naming lt is some stays in
    let names = names_stay content after e e (data_block j) n more is in record {
      ready = record {
        naming = naming_by content after e e ready.naming (omega arith) names;
        taken = λ p there found. ap (taken_of a) (names p there) ∙ ready.taken p there (λ none. found (names p there ∙ none));
        space = used_same content after e e (free_of a) small refl names ready.space;
        small = small;
      };
      others = λ place. others_stay_one place (first_of a) (end_of a) (taken_of a) content after e n stays from below (λ taken others. others (data_block j) lt is);
      takes = takes_same (taken_of a) content after e e ready.taken names;
      stays = λ q there not. record { name = names q there; bytes = places_stay_by content after e e (data_block j) n more ready.naming lt is stays q there not };
      size = refl;
      count = let kept = used_kept content after e e small refl names in omega arith;
    }

-- a pointer sector that isn't touched stands as it did
pub mirror_stays : (content after : Image) (e changed : Entry) (p : BlockPosition) (number : ℕ) (image : List ℕ) → SamePlace content after e changed p → Mirrors content e p number image → Mirrors after changed p number image
mirror_stays content after e changed p number image same mirror = record {
  names = mirror.names ∙ sym same.name;
  bytes = mirror.bytes ∙ ap (block_bytes content) mirror.names ∙ sym same.bytes ∙ ap (block_bytes after) (same.name ∙ sym mirror.names);
}

-- one change after another
pub changes_twice : (a b c : Alloc) (c0 c1 c2 : Image) (e0 e1 e2 : Entry) (One Other Both : BlockPosition → Type 0) → taken_of a 0 ≡ false → taken_of c 0 ≡ false → first_of b ≡ first_of a → end_of b ≡ end_of a
    → ((p : BlockPosition) → One p → Both p) → ((p : BlockPosition) → Other p → Both p) → ChangesPositions a b c0 c1 e0 e1 One → ChangesPositions b c c1 c2 e1 e2 Other → ChangesPositions a c c0 c2 e0 e2 Both
changes_twice a b c c0 c1 c2 e0 e1 e2 One Other Both none still first_is end_is one_in other_in one other = record {
  ready = other.ready;
  others = λ place. stays_twice (taken_of a) (taken_of b) c0 c1 e0 e1 none one.takes place (first_of a) (end_of a) c2 (one.others place)
      (subst (λ (x : ℕ). OthersStay place x (end_of a) (taken_of b) c1 c2 e1) first_is (subst (λ (x : ℕ). OthersStay place (first_of b) x (taken_of b) c1 c2 e1) end_is (other.others place)));
  takes = takes_twice (taken_of a) (taken_of b) (taken_of c) c0 c1 c2 e0 e1 e2 none still one.takes other.takes;
  stays = λ p there not.
      let before = one.stays p there (λ is. not (one_in p is)) in
      let after = other.stays p there (λ is. not (other_in p is)) in
      record { name = after.name ∙ before.name; bytes = after.bytes ∙ before.bytes };
  size = other.size ∙ one.size;
  count = omega (arith, one.count, other.count);
}
