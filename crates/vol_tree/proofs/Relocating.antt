-- An entry gets another place and name.
use Rattle.std.proofs.Common.{◌≡◌, ◌≢◌, ℕ, suc, ◌+◌, ◌/◌, ◌%◌, ◌≤◌, ◌<◌, List, length, map, get_or, set, Option, Some, None, refl, sym, ◌∙◌, ap, subst, arith}
use Rattle.std.specs.Option.{option_map, option_map_or}
use Rattle.std.specs.List.{range_with_len}
use Rattle.std.proofs.lemmas.Option.{same_Some}
use Rattle.std.proofs.lemmas.List.Sums.{sum_by-set}
use Rattle.vol_sector.specs.Disk.{Image, put}
use Rattle.vol_log.proofs.Images.{put_same, put_other, at_once}
use Rattle.vol_inode.specs.declared.entry.Entry.{Entry}
use Rattle.vol_inode.specs.Entry.{IsEntry, name_of}
use Rattle.vol_inode.specs.Name.{IsName}
use Rattle.vol_inode.specs.Spelling.{spelling}
use Rattle.vol_inode.specs.Space.{need_of}
use Rattle.vol_body.specs.Body.{BlockPosition, data_block, indirect_block, inner_block, double_indirect_block, triple_indirect_block, IsPosition, named, block_bytes, byte_at, bytes_of, IsBody, SameSectors, IsSameFile}
use Rattle.vol_body.proofs.Same.{same_file, same_rules}
use Rattle.vol_alloc.specs.declared.sectors.Alloc.{Alloc}
use Rattle.vol_alloc.specs.Alloc.{taken_of}
use Rattle.vol_tree.specs.declared.superblock.Superblock.{Superblock}
use Rattle.vol_tree.specs.Tree as tree
use Rattle.vol_tree.specs.Tree.{Tree, Name, IsTree, changed}
use Rattle.vol_tree.specs.Calls.{moved}
use Rattle.vol_tree.specs.Space.{space, need_in, size_of}
use Rattle.vol_tree.specs.Stands.{Slots, entry_of, node_by, tree_of, IsVolume}
use Rattle.vol_tree.specs.Clauses.{slots_in, tree_in}
use Rattle.vol_tree.specs.Opened.{data_sectors}
use Rattle.vol_tree.specs.internal.Parts.{IsContent, AreTaken}
use Rattle.vol_tree.specs.internal.Moves.{MovesToName}
use Rattle.vol_tree.proofs.OneTree.{same_tree_entry}
use Rattle.vol_tree.proofs.SlotsRead.{slots_count}
use Rattle.vol_tree.proofs.SlotChange.{OtherSlots, FitsIn, set_tree, set_slots, set_volume}
use Rattle.vol_tree.proofs.SlotTaken.{taken_set}
use Rattle.vol_tree.proofs.Finding.{slot_within, entry_at, length_tree}
use Rattle.vol_tree.proofs.Trees.{moved_is_tree}
use Rattle.vol_log.specs.declared.layout.TheConstants.{FIRST_AFTER_LOG}
use Rattle.vol_dirs.specs.Slots.{slot_sector}

-- entries with the same pointers name the same sectors
named_by : (content : Image) (d e : Entry) → e.pointers ≡ d.pointers → (p : BlockPosition) → named content e p ≡ named content d p
named_by content d e same (data_block j) = ap (λ (l : List ℕ). named content (record d { pointers = l }) (data_block j)) same
named_by content d e same indirect_block = ap (λ (l : List ℕ). named content (record d { pointers = l }) indirect_block) same
named_by content d e same (inner_block i) = ap (λ (l : List ℕ). named content (record d { pointers = l }) (inner_block i)) same
named_by content d e same (double_indirect_block k) = ap (λ (l : List ℕ). named content (record d { pointers = l }) (double_indirect_block k)) same
named_by content d e same triple_indirect_block = ap (λ (l : List ℕ). named content (record d { pointers = l }) triple_indirect_block) same

body_by : (content : Image) (d e : Entry) → e.pointers ≡ d.pointers → e.size ≡ d.size → IsBody content d → IsBody content e
body_by content d e same size body = record {
  distinct = λ p q a b some eq. body.distinct p q a b (λ none. some (named_by content d e same p ∙ none)) (sym (named_by content d e same p) ∙ eq ∙ named_by content d e same q);
  past = λ p there le. named_by content d e same p ∙ body.past p there (omega (arith, size, le));
  zeros = λ k le lt. ap (λ (n : ℕ). get_or (block_bytes content n) (k % 512) 0) (named_by content d e same (data_block (k / 512))) ∙ body.zeros k (omega (arith, size, le)) lt;
}

-- the tree's entry gets another place and name
pub moved_to : (T : Tree) (s parent : ℕ) (name : Name) (e : tree.Entry) → tree.entry T s ≡ Some e → moved T s parent name ≡ changed T s (Some (record e { parent = parent; name = name }))
moved_to T s parent name e h = ap (λ (o : Option tree.Entry). option_map_or (λ (e : tree.Entry). changed T s (Some (record e { parent = parent; name = name }))) o T) h

module _ (a c : Image) (v : Superblock) (s : ℕ) (d to : Entry) (is : IsContent a v) (at : get_or (slots_in a v.slots) s None ≡ Some d) (low : FIRST_AFTER_LOG + v.slots < v.sectors) (right : IsEntry v.version to)
    (pointers : to.pointers ≡ d.pointers) (size : to.size ≡ d.size) (kind : to.kind ≡ d.kind) (put_is : c ≡ put (slot_sector (s + 1)) (spelling to) a) where
  abbrev slots : Slots
  slots = slots_in a v.slots

  abbrev T : Tree
  T = tree_in a v

  lt : s < v.slots
  lt = slot_within a v.slots s d at

  elsewhere : (k : ℕ) → k ≢ slot_sector (s + 1) → c k ≡ a k
  elsewhere k differ = at_once k c (put (slot_sector (s + 1)) (spelling to) a) put_is ∙ put_other (slot_sector (s + 1)) k (spelling to) a differ

  sectors_stay : (t : ℕ) (f : Entry) → get_or slots t None ≡ Some f → SameSectors a c f
  sectors_stay t f is_f p place some =
      let after_slots : FIRST_AFTER_LOG + v.slots ≤ named a f p = is.volume.sectors.after_slots t f p is_f place some in
      elsewhere (named a f p) (λ same. omega (arith, lt))

  others : OtherSlots a c v slots s
  others = record {
    bytes = λ t l differ. elsewhere (slot_sector (t + 1)) (λ same. differ (omega arith));
    files = λ t f is_f differ. sectors_stay t f is_f;
  }

  own : (e : Entry) → Some to ≡ Some e → to ≡ e
  own e same = same_Some to e same

  same_d : IsSameFile a c d
  same_d = same_file a c d (sectors_stay s d at)

  names : (p : BlockPosition) → IsPosition p → named c to p ≡ named a d p
  names p place = named_by c d to pointers p ∙ same_d.names p place

  named_as : (e : Entry) → Some to ≡ Some e → (p : BlockPosition) → IsPosition p → named c e p ≡ named a d p
  named_as e same p place = ap (λ (x : Entry). named c x p) (sym (own e same)) ∙ names p place

  fits : FitsIn a c v slots s (Some to)
  fits = record {
    bytes = λ l. at_once (slot_sector (s + 1)) c (put (slot_sector (s + 1)) (spelling to) a) put_is ∙ put_same (slot_sector (s + 1)) (spelling to) a;
    entry = λ e same. subst (IsEntry v.version) (own e same) right;
    body = λ e same. subst (IsBody c) (own e same) (body_by c d to pointers size (same_rules a c d same_d (is.volume.sectors.bodies s d at)));
    after_slots = λ e p same place some.
        let name = named_as e same p place in
        let le : FIRST_AFTER_LOG + v.slots ≤ named a d p = is.volume.sectors.after_slots s d p at place (λ none. some (name ∙ none)) in
        omega (arith, name);
    there = λ e p same place.
        let name = named_as e same p place in
        let below : named a d p < v.sectors = is.volume.sectors.there s d p at place in
        omega (arith, name);
    apart = λ t f e p q is_f differ same place other some eq. differ (is.volume.sectors.apart t s f d p q is_f at place other some (eq ∙ named_as e same q other));
  }

  slots_are : slots_in c v.slots ≡ set slots s (Some to)
  slots_are = set_slots a c v slots s (Some to) is.volume.count is.volume.holds is.volume.sectors others fits

  tree_set : tree_of c (set slots s (Some to)) ≡ changed T (suc s) (Some (entry_of c to))
  tree_set = set_tree a c v slots s (Some to) is.volume.count is.volume.holds is.volume.sectors others fits

  tree_is : tree_in c v ≡ changed T (suc s) (Some (entry_of c to))
  tree_is = ap (tree_of c) slots_are ∙ tree_set

  bytes_are : bytes_of c to ≡ bytes_of c d
  bytes_are = λ i. map (byte_at c (record d { pointers = pointers i })) (range_with_len 0 (size i))

  same_entry : entry_of c d ≡ entry_of a d
  same_entry = same_tree_entry a c v.version d (is.volume.holds.entries s d at) (sectors_stay s d at)

  entry_is : (parent : ℕ) (name : Name) → to.parent ≡ parent → name_of to ≡ name → entry_of c to ≡ record (entry_of a d) { parent = parent; name = name }
  entry_is parent name p n =
      let first : entry_of c to ≡ record (entry_of c d) { parent = parent; name = name } = λ i. record { parent = p i; name = n i; node = node_by (kind i) (bytes_are i) } in
      first ∙ ap (λ (e : tree.Entry). (let x : tree.Entry = record e { parent = parent; name = name } in x)) same_entry

  at_tree : tree.entry T (suc s) ≡ Some (entry_of a d)
  at_tree = entry_at a slots s ∙ ap (option_map (entry_of a)) at

  module _ (parent : ℕ) (name : Name) (p : to.parent ≡ parent) (n : name_of to ≡ name) where
    abbrev there : tree.Entry
    there = record (entry_of a d) { parent = parent; name = name }

    whole : changed T (suc s) (Some (entry_of c to)) ≡ changed T (suc s) (Some there)
    whole = ap (λ (e : tree.Entry). changed T (suc s) (Some e)) (entry_is parent name p n)

    pub relocated_tree : tree_in c v ≡ moved T (suc s) parent name
    relocated_tree = tree_is ∙ whole ∙ sym (moved_to T (suc s) parent name (entry_of a d) at_tree)

    space_stays : space (changed T (suc s) (Some there)) ≡ space T
    space_stays =
        let long : s < length T = omega (arith, length_tree a v, lt) in
        let was : need_in (get_or T s None) ≡ need_of (size_of (entry_of a d).node) = ap need_in at_tree in
        omega (arith, sum_by-set need_in T s (Some there) None long, was)

    pub relocated_space : space (tree_in c v) ≡ space T
    relocated_space = ap space (tree_is ∙ whole) ∙ space_stays

    pub relocated_content : IsTree (changed T (suc s) (Some there)) → IsContent c v
    relocated_content is_tree = record {
      volume =
          let back = sym (tree_set ∙ whole) in
          let few : space (changed T (suc s) (Some there)) ≤ data_sectors v = omega (arith, space_stays, is.volume.space) in
          subst (λ (x : Slots). IsVolume c v x) (sym slots_are)
          (set_volume a c v slots s (Some to) is.volume.count is.volume.holds is.volume.sectors others fits (subst IsTree back is_tree) (subst (λ (U : Tree). space U ≤ data_sectors v) back few));
    }

    pub relocated_is_tree : MovesToName T (suc s) parent name → IsName name → IsTree (changed T (suc s) (Some there))
    relocated_is_tree m is_name = moved_is_tree T is.volume.tree (suc s) (entry_of a d) at_tree m.into.not_top parent name is_name m.into.inside m.into.outside m.free

  pub relocated_taken : (sectors : Alloc) → AreTaken a v slots sectors → AreTaken c v (slots_in c v.slots) sectors
  relocated_taken sectors taken = subst (λ (x : Slots). AreTaken c v x sectors) (sym slots_are)
      (taken_set a c v slots s (omega (arith, slots_count a v.slots, lt)) (Some to) is.volume.holds is.volume.sectors others fits sectors sectors (record {
        own = λ e same p place some.
            let name = named_as e same p place in
            ap (taken_of sectors) name ∙ taken.named s d at p place (λ none. some (name ∙ none));
        same = λ n not_old not_new. refl;
        given = λ n was_named not_new. absurd (was_named (λ e at_e p place eq.
            let is_d : d ≡ e = same_Some d e (sym at ∙ at_e) in
            not_new to refl p place (names p place ∙ ap (λ (x : Entry). named a x p) is_d ∙ eq)));
      }) taken)

  pub relocated_front : c 0 ≡ a 0
  relocated_front = elsewhere 0 (λ same. omega arith)
