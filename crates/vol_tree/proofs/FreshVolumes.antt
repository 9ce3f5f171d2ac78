-- A new volume that is opened at once.
use Rattle.std.proofs.Common.{◌≡◌, ◌↔◌, inl, inr, ℕ, zero, suc, ◌+◌, ◌-◌, ◌≤◌, ◌<◌, List, [], All, length, drop, get_or, replicate, Option, Some, None, IsTrue, refl, sym, ◌∙◌, ap, subst, arith}
use Rattle.std.specs.Option.{option_map}
use Rattle.std.proofs.lemmas.Bool.{cases_lt}
use Rattle.std.proofs.lemmas.List.{ext_get_or, length-replicate}
use Rattle.std.proofs.lemmas.Option.{same_Some, none-some}
use Rattle.vol_sector.specs.Disk.{Image}
use Rattle.vol_sector.specs.declared.device.Device.{Ghosts}
use Rattle.vol_log.specs.Log.{view, device_of, staged_of}
use Rattle.vol_log.specs.Batch.{over, SameContent, Settled}
use Rattle.vol_log.specs.declared.log.Log.{Log}
use Rattle.vol_log.specs.declared.staged.Staged.{Staged}
use Rattle.vol_inode.specs.declared.entry.Entry.{Entry}
use Rattle.vol_inode.specs.declared.entry.Kind.TheVariants.{Directory}
use Rattle.vol_inode.specs.declared.version.Version.{Version}
use Rattle.vol_inode.specs.Entry.{IsEntry}
use Rattle.vol_inode.specs.Space.{blocks_for_size}
use Rattle.vol_inode.specs.Spelling.{spelling, unused}
use Rattle.vol_alloc.specs.declared.sectors.Alloc.{Alloc}
use Rattle.vol_alloc.specs.Alloc.{taken_of}
use Rattle.vol_alloc.specs.Numbers.{ListsNumber, ArePlaces}
use Rattle.vol_dirs.specs.declared.dirs.Dirs.{Dirs}
use Rattle.vol_dirs.specs.Names.{Shows}
use Rattle.vol_body.specs.Body.{named}
use Rattle.vol_tree.specs.declared.superblock.Superblock.{Superblock}
use Rattle.vol_tree.specs.Superblock.{HasRanges}
use Rattle.vol_tree.specs.Tree as tree
use Rattle.vol_tree.specs.Tree.{Tree}
use Rattle.vol_tree.specs.Space.{space}
use Rattle.vol_tree.specs.Stands.{Slots, slot, entry_of, tree_of, IsVolume, StandsAs, empty_tree}
use Rattle.vol_tree.specs.Clauses.{slots_in, tree_in}
use Rattle.vol_tree.specs.internal.Formatting.{root_entry, fresh_slot, HasFreshSlots}
use Rattle.vol_tree.specs.internal.Parts.{IsContent, AreTaken}
use Rattle.vol_tree.specs.internal.Reads.{HasParts}
use Rattle.vol_tree.proofs.Empty.{none_at, zero_at, fresh_slots, later_slot, only_entry, names_none, no_need, tree_is, fresh_volume}
use Rattle.vol_tree.proofs.Finding.{entry_at}
use Rattle.vol_tree.proofs.OneTree.{one_tree}
use Rattle.vol_tree.proofs.Openings.{Finds, finds_stands, has_same, stands_volume}
use Rattle.vol_tree.proofs.SlotsRead.{slots_read}
use Rattle.vol_log.specs.declared.layout.TheConstants.{FIRST_AFTER_LOG}
use Rattle.vol_dirs.specs.Slots.{slot_sector}

-- numbers that aren't refused are in their ranges
pub in_ranges : (v : Superblock) → ((HasRanges v → ⊥) → ⊥) → HasRanges v
in_ranges v some = record {
  least = elim (cases_lt v.sectors 137) [ inl lt ↦ absurd (some (λ r. omega (arith, r.least))) | inr le ↦ le ];
  most = elim (cases_lt 16777216 v.sectors) [ inl lt ↦ absurd (some (λ r. omega (arith, r.most))) | inr le ↦ le ];
  some_slots = elim (cases_lt v.slots 1) [ inl lt ↦ absurd (some (λ r. omega (arith, r.some_slots))) | inr le ↦ le ];
  few_slots = elim (cases_lt 1048576 v.slots) [ inl lt ↦ absurd (some (λ r. omega (arith, r.few_slots))) | inr le ↦ le ];
  room = elim (cases_lt (FIRST_AFTER_LOG + v.slots) v.sectors) [ inl lt ↦ lt | inr le ↦ absurd (some (λ r. omega (arith, r.room))) ];
  older = λ older. (
    elim (cases_lt 65536 v.sectors) [ inl lt ↦ absurd (some (λ r. omega (arith, (r.older older).0))) | inr le ↦ le ],
    elim (cases_lt 8192 v.slots) [ inl lt ↦ absurd (some (λ r. omega (arith, (r.older older).1))) | inr le ↦ le ],
  );
}

-- ---- the slots of the empty tree

-- zeros, as many as there are
zeros_are : (n : ℕ) (l : List ℕ) → length l ≡ n → ((k : ℕ) → k < n → get_or l k 0 ≡ 0) → l ≡ replicate n 0
zeros_are n l long each = ext_get_or 0 l (replicate n 0) (long ∙ sym (length-replicate {A = ℕ} n 0)) (λ k lt. let l : k < n = omega arith in each k l ∙ sym (zero_at n k))

-- an entry that is the root in the tree is the root's
root_is : (content : Image) (version : Version) (e : Entry) → IsEntry version e → entry_of content e ≡ tree.root → e ≡ root_entry
root_is content version e right at =
    let parent : e.parent ≡ 0 = ap (λ (x : tree.Entry). x.parent) at in
    let kind : e.kind ≡ Directory = right.rules.name.root_kind parent in
    let short : e.name_length ≡ 0 = right.rules.name.root_name parent in
    let size : e.size ≡ 0 = right.rules.size.directory kind in
    let padded : All (λ (b : ℕ). b ≡ 0) e.name = subst (λ (n : ℕ). All (λ (b : ℕ). b ≡ 0) (drop n e.name)) short right.rules.padded in
    let name : e.name ≡ replicate 255 0 = zeros_are 255 e.name right.widths.name (λ k lt. padded k 0 (omega (arith, right.widths.name))) in
    let none : blocks_for_size e.size ≡ 0 = ap blocks_for_size size in
    let pointers : e.pointers ≡ replicate 61 0 = zeros_are 61 e.pointers right.widths.pointers (λ k lt. right.rules.pointers k lt (omega (arith, none))) in
    λ i. record { kind = kind i; name_length = short i; parent = parent i; size = size i; name = name i; pointers = pointers i }

module _ (content : Image) (v : Superblock) (is : IsContent content v) (empty : tree_in content v ≡ empty_tree v.slots) where
  slot_is : (s : ℕ) (o : Option Entry) → ((e : Entry) → o ≡ Some e → IsEntry v.version e) → option_map (entry_of content) o ≡ get_or (empty_tree v.slots) s None → slot o ≡ fresh_slot s
  slot_is zero None right at = absurd (none-some tree.root at)
  slot_is zero (Some e) right at = ap spelling (root_is content v.version e (right e refl) (same_Some (entry_of content e) tree.root at))
  slot_is (suc s) None right at = sym (later_slot (suc s) (omega arith))
  slot_is (suc s) (Some e) right at = absurd (none-some (entry_of content e) (sym (at ∙ none_at (v.slots - 1) s)))

  pub has_fresh : HasFreshSlots v.slots content
  has_fresh s lt =
      let slots = slots_in content v.slots in
      is.volume.holds.bytes s (omega (arith, is.volume.count))
      ∙ slot_is s (get_or slots s None) (is.volume.holds.entries s) (sym (entry_at content slots s) ∙ ap (λ (T : Tree). get_or T s None) empty)

-- ---- what is kept in memory of them

module _ (content : Image) (v : Superblock) (ranges : HasRanges v) (written : HasFreshSlots v.slots content) where
  volume : IsVolume content v (fresh_slots v.slots)
  volume = fresh_volume content v ranges written

  slots_are : slots_in content v.slots ≡ fresh_slots v.slots
  slots_are = ap (slots_in content) (sym volume.count) ∙ slots_read content v.version (fresh_slots v.slots) volume.holds

  tree_empty : tree_in content v ≡ empty_tree v.slots
  tree_empty = ap (tree_of content) slots_are ∙ tree_is content v.slots

  pub first_slot : content (slot_sector 1) ≡ spelling root_entry
  first_slot = ap content (omega arith) ∙ written 0 ranges.some_slots

  pub other_slots : (s : ℕ) → 2 ≤ s → s ≤ v.slots → content (slot_sector s) ≡ unused
  other_slots s from to =
      let lt : s - 1 < v.slots = omega arith in
      ap content (omega arith) ∙ written (s - 1) lt ∙ later_slot (s - 1) (omega arith)

  pub fresh_parts : (dirs : Dirs) (sectors : Alloc) → Shows v.version content v.slots dirs → ((n : ℕ) → IsTrue (taken_of sectors n) ↔ ListsNumber [] n) → HasParts content v dirs sectors 0
  fresh_parts dirs sectors shows taken = record {
    volume = record { volume = subst (IsVolume content v) (sym slots_are) volume };
    shows = shows;
    taken = subst (λ (l : Slots). AreTaken content v l sectors) (sym slots_are) (record {
      named = λ s e at p place some. absurd (some (ap (λ (d : Entry). named content d p) (only_entry v.slots s e at).1 ∙ names_none content p));
      only = λ n is none. let has = (taken n).0 is in omega (arith, has.1);
    });
    reserved = sym (ap space tree_empty ∙ no_need (v.slots - 1));
  }

-- no number is out of its place where there is none
pub no_places : (first end : ℕ) → ArePlaces first end []
no_places first end = record {
  from = λ k lt. absurd (omega (arith, lt));
  below = λ k lt. absurd (omega (arith, lt));
  distinct = λ j k lt there. absurd (omega (arith, there));
}

-- ---- what opening finds

module _ {D : Type 0} {g : Ghosts D} (device : D) (log : Log D g) (v : Superblock) (st : StandsAs (g.disk device).seen v (empty_tree v.slots)) (settled : Settled v.sectors (g.disk (device_of log))) (none : staged_of log ≡ []) (same : SameContent (view log) st.content) where
  pub finds_empty : Finds v.sectors (g.disk device) (g.disk (device_of log)) (view log) v
  finds_empty = record {
    ranges = st.ranges;
    room = omega arith;
    front = st.front;
    has = has_same v.sectors (g.disk device).seen st.content (view log) st.log same;
    settled = settled;
    seen = ap (λ (batch : List Staged). over batch (g.disk (device_of log)).seen) none;
    volume = stands_volume (g.disk device).seen v (empty_tree v.slots) st (view log) same;
  }

  pub found_empty : tree_in (view log) v ≡ empty_tree v.slots
  found_empty =
      let on = finds_stands v.sectors (g.disk device) (g.disk (device_of log)) (view log) v finds_empty in
      one_tree (g.disk device).seen v (tree_in (view log) v) (empty_tree v.slots) on.stands st

  pub found_fresh : HasFreshSlots v.slots (view log)
  found_fresh = has_fresh (view log) v finds_empty.volume found_empty
