-- An entry that names no sectors is put into an unused slot.
use Rattle.std.proofs.Common.{◌≡◌, ◌≢◌, ℕ, zero, suc, ◌+◌, ◌-◌, ◌/◌, ◌%◌, ◌≤◌, ◌<◌, ◌==◌, nat_lt, Bool, true, false, if◌then◌else◌, List, [], length, map, get_or, set, replicate, Option, Some, None, Result, Ok, Err, refl, sym, ◌∙◌, ap, subst, arith}
use Rattle.std.specs.Option.{option_map, option_map_or}
use Rattle.std.specs.List.{range_with_len}
use Rattle.std.proofs.lemmas.List.Sums.{sum_by-set}
use Rattle.std.proofs.lemmas.Option.{same_Some, none-some}
use Rattle.vol_sector.specs.Disk.{Image, put}
use Rattle.vol_log.proofs.Images.{put_same, put_other, at_once}
use Rattle.vol_inode.specs.declared.entry.Entry.{Entry}
use Rattle.vol_inode.specs.declared.entry.Kind.{Kind}
use Rattle.vol_inode.specs.declared.entry.Kind.TheVariants as kinds
use Rattle.vol_inode.specs.Entry.{IsEntry, name_of}
use Rattle.vol_inode.specs.Spelling.{spelling}
use Rattle.vol_inode.specs.Space.{need_of}
use Rattle.vol_body.specs.Body.{BlockPosition, data_block, indirect_block, inner_block, double_indirect_block, triple_indirect_block, named, number_in, block_bytes, byte_at, bytes_of, IsBody}
use Rattle.vol_alloc.specs.declared.sectors.Alloc.{Alloc}
use Rattle.vol_tree.specs.declared.superblock.Superblock.{Superblock}
use Rattle.vol_tree.specs.declared.errno.Errno.{Errno}
use Rattle.vol_tree.specs.declared.errno.Errno.TheVariants as errno
use Rattle.vol_tree.specs.Tree as tree
use Rattle.vol_tree.specs.Tree.{Tree, Name, Node, IsTree, lookup, least_from, is_unused, changed}
use Rattle.vol_tree.specs.Calls.{created}
use Rattle.vol_tree.specs.Space.{space, need_in, size_of}
use Rattle.vol_tree.specs.Stands.{Slots, entry_of, tree_of, node_by, IsVolume}
use Rattle.vol_tree.specs.Clauses.{slots_in, tree_in}
use Rattle.vol_tree.specs.Opened.{data_sectors}
use Rattle.vol_tree.specs.internal.Parts.{IsContent, AreTaken}
use Rattle.vol_tree.proofs.SlotsRead.{slots_count}
use Rattle.vol_tree.proofs.SlotChange.{OtherSlots, FitsIn, set_tree, set_slots, set_volume}
use Rattle.vol_tree.proofs.SlotTaken.{taken_set}
use Rattle.vol_tree.proofs.Finding.{entry_at, length_tree}
use Rattle.vol_log.specs.declared.layout.TheConstants.{FIRST_AFTER_LOG}
use Rattle.vol_dirs.specs.Slots.{slot_sector}

-- what a creation answers
pub created_is : (T : Tree) (parent serial : ℕ) (name : Name) (node : Node) → lookup T parent name ≡ None → least_from 1 is_unused T ≡ Some serial
    → created T parent name node ≡ Ok (changed T serial (Some (record { parent = parent; name = name; node = node })), serial)
created_is T parent serial name node missing free =
    let answer : ℕ → Result (Tree × ℕ) Errno = λ s. Ok (changed T s (Some (record { parent = parent; name = name; node = node })), s) in
    ap (λ (o : Option ℕ). option_map_or (λ (found : ℕ). Err errno.Exist) o (option_map_or answer (least_from 1 is_unused T) (Err errno.NoSpace))) missing
    ∙ ap (λ (o : Option ℕ). option_map_or answer o (Err errno.NoSpace)) free

pub created_exists : (T : Tree) (parent found : ℕ) (name : Name) (node : Node) → lookup T parent name ≡ Some found → created T parent name node ≡ Err errno.Exist
created_exists T parent found name node there =
    let answer : ℕ → Result (Tree × ℕ) Errno = λ s. Ok (changed T s (Some (record { parent = parent; name = name; node = node })), s) in
    ap (λ (o : Option ℕ). option_map_or (λ (found : ℕ). Err errno.Exist) o (option_map_or answer (least_from 1 is_unused T) (Err errno.NoSpace))) there

pub created_no_space : (T : Tree) (parent : ℕ) (name : Name) (node : Node) → lookup T parent name ≡ None → least_from 1 is_unused T ≡ None → created T parent name node ≡ Err errno.NoSpace
created_no_space T parent name node missing full =
    let answer : ℕ → Result (Tree × ℕ) Errno = λ s. Ok (changed T s (Some (record { parent = parent; name = name; node = node })), s) in
    ap (λ (o : Option ℕ). option_map_or (λ (found : ℕ). Err errno.Exist) o (option_map_or answer (least_from 1 is_unused T) (Err errno.NoSpace))) missing
    ∙ ap (λ (o : Option ℕ). option_map_or answer o (Err errno.NoSpace)) full

-- ---- a file with no pointers

pub zero_at : (n i : ℕ) → get_or (replicate {A = ℕ} n 0) i 0 ≡ 0
zero_at zero i = refl
zero_at (suc n) zero = refl
zero_at (suc n) (suc i) = zero_at n i

pick_list : (content : Image) (c : Bool) (n i y : ℕ) → n ≡ 0 → y ≡ 0 → (if c then number_in content n i else y) ≡ 0
pick_list content true n i y one other = ap (λ (x : ℕ). number_in content x i) one
pick_list content false n i y one other = other

pick_part : (b : Bool) (x y : ℕ) → x ≡ 0 → y ≡ 0 → (if b then x else y) ≡ 0
pick_part true x y one other = one
pick_part false x y one other = other

double_none : (content : Image) (e : Entry) → ((k : ℕ) → get_or e.pointers k 0 ≡ 0) → (d : ℕ) → named content e (double_indirect_block d) ≡ 0
double_none content e none zero = none 59
double_none content e none (suc m) = ap (λ (n : ℕ). number_in content n m) (none 60)

inner_none : (content : Image) (e : Entry) → ((k : ℕ) → get_or e.pointers k 0 ≡ 0) → (i : ℕ) → named content e (inner_block i) ≡ 0
inner_none content e none i = ap (λ (n : ℕ). number_in content n (i % 128)) (double_none content e none (i / 128))

pub names_none : (content : Image) (e : Entry) → ((k : ℕ) → get_or e.pointers k 0 ≡ 0) → (p : BlockPosition) → named content e p ≡ 0
names_none content e none (data_block j) = pick_part (nat_lt j 58) _ _ (none j)
    (pick_list content (nat_lt j 186) (get_or e.pointers 58 0) (j - 58) _ (none 58) (ap (λ (n : ℕ). number_in content n ((j - 186) % 128)) (inner_none content e none ((j - 186) / 128))))
names_none content e none indirect_block = none 58
names_none content e none (inner_block i) = inner_none content e none i
names_none content e none (double_indirect_block d) = double_none content e none d
names_none content e none triple_indirect_block = none 60

pub body_of_none : (content : Image) (e : Entry) → ((k : ℕ) → get_or e.pointers k 0 ≡ 0) → IsBody content e
body_of_none content e none = record {
  distinct = λ p q a b some same. absurd (some (names_none content e none p));
  past = λ p a le. names_none content e none p;
  zeros = λ k le lt. ap (λ (n : ℕ). get_or (block_bytes content n) (k % 512) 0) (names_none content e none (data_block (k / 512))) ∙ zero_at 512 (k % 512);
}

bytes_none : (content : Image) (e : Entry) → e.size ≡ 0 → bytes_of content e ≡ []
bytes_none content e none = ap (λ (n : ℕ). map (byte_at content e) (range_with_len 0 n)) none

no_need : (k : Kind) (bytes : List ℕ) → bytes ≡ [] → need_of (size_of (node_by k bytes)) ≡ 0
no_need kinds.Directory bytes none = refl
no_need kinds.File bytes none = ap (λ (l : List ℕ). need_of (length l)) none

module _ (a b : Image) (v : Superblock) (is : IsContent a v) (s : ℕ) (lt : s < v.slots) (free : tree.entry (tree_in a v) (suc s) ≡ None)
    (e : Entry) (right : IsEntry v.version e) (none : (k : ℕ) → get_or e.pointers k 0 ≡ 0) (empty : e.size ≡ 0) (is_put : b ≡ put (slot_sector (s + 1)) (spelling e) a) (ranges : FIRST_AFTER_LOG + v.slots < v.sectors) where
  abbrev slots : Slots
  slots = slots_in a v.slots

  abbrev T : Tree
  T = tree_in a v

  abbrev added : tree.Entry
  added = entry_of b e

  elsewhere : (k : ℕ) → k ≢ slot_sector (s + 1) → b k ≡ a k
  elsewhere k differ = at_once k b (put (slot_sector (s + 1)) (spelling e) a) is_put ∙ put_other (slot_sector (s + 1)) k (spelling e) a differ

  unused_slot : (o : Option Entry) → get_or slots s None ≡ o → o ≡ None
  unused_slot None at = refl
  unused_slot (Some d) at = absurd (none-some (entry_of a d) (sym free ∙ entry_at a slots s ∙ ap (option_map (entry_of a)) at))

  others : OtherSlots a b v slots s
  others = record {
    bytes = λ t l differ. elsewhere (slot_sector (t + 1)) (λ same. differ (omega arith));
    files = λ t d at differ p place some.
        let after_slots : FIRST_AFTER_LOG + v.slots ≤ named a d p = is.volume.sectors.after_slots t d p at place some in
        elsewhere (named a d p) (λ same. omega arith);
  }

  own : (d : Entry) → Some e ≡ Some d → e ≡ d
  own d same = same_Some e d same

  fits : FitsIn a b v slots s (Some e)
  fits = record {
    bytes = λ l. at_once (slot_sector (s + 1)) b (put (slot_sector (s + 1)) (spelling e) a) is_put ∙ put_same (slot_sector (s + 1)) (spelling e) a;
    entry = λ d same. subst (IsEntry v.version) (own d same) right;
    body = λ d same. subst (IsBody b) (own d same) (body_of_none b e none);
    after_slots = λ d p same place some. absurd (some (ap (λ (x : Entry). named b x p) (sym (own d same)) ∙ names_none b e none p));
    there = λ d p same place. let zero_named : named b d p ≡ 0 = ap (λ (x : Entry). named b x p) (sym (own d same)) ∙ names_none b e none p in omega arith;
    apart = λ t c d p q at differ same place other some eq. some (eq ∙ ap (λ (x : Entry). named b x q) (sym (own d same)) ∙ names_none b e none q);
  }

  slots_are : slots_in b v.slots ≡ set slots s (Some e)
  slots_are = set_slots a b v slots s (Some e) is.volume.count is.volume.holds is.volume.sectors others fits

  tree_set : tree_of b (set slots s (Some e)) ≡ changed T (suc s) (Some added)
  tree_set = set_tree a b v slots s (Some e) is.volume.count is.volume.holds is.volume.sectors others fits

  pub added_tree : tree_in b v ≡ changed T (suc s) (Some added)
  added_tree = ap (tree_of b) slots_are ∙ tree_set

  added_space : space (changed T (suc s) (Some added)) ≡ space T
  added_space =
      let long : s < length T = omega (arith, length_tree a v) in
      let was : need_in (get_or T s None) ≡ 0 = ap need_in free in
      let now : need_in (Some added) ≡ 0 = no_need e.kind (bytes_of b e) (bytes_none b e empty) in
      omega (arith, sum_by-set need_in T s (Some added) None long)

  pub added_reserved : space (tree_in b v) ≡ space T
  added_reserved = ap space added_tree ∙ added_space

  pub added_front : b 0 ≡ a 0
  added_front = elsewhere 0 (λ same. omega arith)

  pub added_content : IsTree (changed T (suc s) (Some added)) → IsContent b v
  added_content is_tree = record {
    volume =
        let small : space (changed T (suc s) (Some added)) ≤ data_sectors v = omega (arith, added_space, is.volume.space) in
        subst (λ (x : Slots). IsVolume b v x) (sym slots_are)
        (set_volume a b v slots s (Some e) is.volume.count is.volume.holds is.volume.sectors others fits (subst IsTree (sym tree_set) is_tree) (subst (λ (U : Tree). space U ≤ data_sectors v) (sym tree_set) small));
  }

  pub added_taken : (sectors : Alloc) → AreTaken a v slots sectors → AreTaken b v (slots_in b v.slots) sectors
  added_taken sectors taken =
      let was : get_or slots s None ≡ None = unused_slot (get_or slots s None) refl in
      subst (λ (x : Slots). AreTaken b v x sectors) (sym slots_are)
      (taken_set a b v slots s (omega (arith, slots_count a v.slots)) (Some e) is.volume.holds is.volume.sectors others fits sectors sectors (record {
        own = λ d same p place some. absurd (some (ap (λ (x : Entry). named b x p) (sym (own d same)) ∙ names_none b e none p));
        same = λ n not_old not_new. refl;
        given = λ n was_named not_new. absurd (was_named (λ d at. absurd (none-some d (sym was ∙ at))));
      }) taken)

  pub added_is : (parent : ℕ) (name : Name) → e.parent ≡ parent → name_of e ≡ name → added ≡ record { parent = parent; name = name; node = node_by e.kind [] }
  added_is parent name p n = λ i. record { parent = p i; name = n i; node = node_by e.kind (bytes_none b e empty i) }
