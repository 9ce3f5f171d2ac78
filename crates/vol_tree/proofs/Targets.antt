-- What a rename's target may be.
use Rattle.std.proofs.Common.{is_some, inl, inr, ◌≡◌, ◌≢◌, ◌≤◌, ◌-◌, ℕ, Bool, not, true, false, get_or, Option, Some, None, Ok, MatchOption, refl, sym, ◌∙◌, ap}
use Rattle.std.proofs.lemmas.Bool.{cases_Bool}
use Rattle.vol_sector.specs.Disk.{Image}
use Rattle.vol_sector.specs.declared.device.Device.{Ghosts}
use Rattle.vol_log.specs.Log.{view, device_of}
use Rattle.vol_inode.specs.declared.entry.Entry.{Entry}
use Rattle.vol_inode.specs.declared.entry.Kind.{Kind}
use Rattle.vol_inode.specs.declared.entry.Kind.TheVariants as kinds
use Rattle.vol_inode.specs.Name.{IsName}
use Rattle.vol_body.specs.Body.{bytes_of}
use Rattle.vol_dirs.specs.declared.dirs.Dirs.{Dirs}
use Rattle.vol_dirs.specs.Names.{Shows, NoChildOver, IsNextChild}
use Rattle.vol_tree.specs.declared.parts.Parts.{Parts}
use Rattle.vol_tree.specs.declared.superblock.Superblock.{Superblock}
use Rattle.vol_tree.specs.Tree.{Tree, Name, entry, lookup, is_empty}
use Rattle.vol_tree.specs.Calls.{is_directory, directory_at}
use Rattle.vol_tree.specs.Stands.{Slots, entry_of, node_by}
use Rattle.vol_tree.specs.Clauses.{tree_in, is_io}
use Rattle.vol_tree.specs.internal.Slots.{slot_of}
use Rattle.vol_tree.specs.internal.Parts.{IsContent, IsOpen}
use Rattle.vol_tree.specs.internal.Commits.{Commits}
use Rattle.vol_tree.specs.internal.Moves.{MovesIn}
use Rattle.vol_tree.specs.internal.Replacing.{replacing, kind_is_directory}
use Rattle.vol_tree.proofs.Children.{none_in, some_in, childless_empty}
use Rattle.vol_tree.proofs.Climbing.{kind_at, target_not_top}
use Rattle.vol_tree.proofs.Finding.{tree_entry}
use Rattle.vol_tree.proofs.Lookups.{looked_up}
use Rattle.vol_tree.proofs.Trees.{Childless, file_childless}

module _ (content : Image) (v : Superblock) (dirs : Dirs) (is : IsContent content v) (shows : Shows v.version content v.slots dirs) (o : Option ℕ) (p : ℕ) where
  is_full : MatchOption o (NoChildOver dirs p 0) (λ s. IsNextChild dirs p 0 s) → not (is_empty (tree_in content v) p) ≡ is_some o
  is_full h = elim (cases_Bool (is_some o)) [
    | inl some ↦ ap not (some_in content v dirs is shows o p h some) ∙ sym some
    | inr none ↦ ap not (childless_empty (tree_in content v) p (none_in content v dirs is shows o p h none)) ∙ sym none
  ]

  file_replaced : (k : Kind) (f : Bool) → replacing k kinds.Directory f ≡ Ok tt → f ≡ false
  file_replaced kinds.Directory true is_ok = absurd (cc)
  file_replaced kinds.Directory false is_ok = refl
  file_replaced kinds.File f is_ok = absurd (cc)

  -- where it may go, nothing stands in it
  bare_target : (k : Kind) (d : Entry) → 1 ≤ p → slot_of content v p ≡ Some d → MatchOption o (NoChildOver dirs p 0) (λ s. IsNextChild dirs p 0 s) → replacing k d.kind (is_some o) ≡ Ok tt → Childless (tree_in content v) p
  bare_target k d first slot h okay = by_kind d.kind refl
    where
      by_kind : (t : Kind) → d.kind ≡ t → Childless (tree_in content v) p
      by_kind kinds.Directory same = none_in content v dirs is shows o p h (file_replaced k (is_some o) (ap (λ (t : Kind). replacing k t (is_some o)) (sym same) ∙ okay))
      by_kind kinds.File same = file_childless (tree_in content v) is.volume.tree p (entry_of content d) (tree_entry content v p d first slot) (ap (λ (t : Kind). is_directory (node_by t (bytes_of content d))) same)

-- a refusal by the kinds isn't the device's
pub never_io : (k t : Kind) (f : Bool) → is_io (replacing k t f) ≡ false
never_io kinds.Directory kinds.Directory true = refl
never_io kinds.Directory kinds.Directory false = refl
never_io kinds.Directory kinds.File f = refl
never_io kinds.File kinds.Directory f = refl
never_io kinds.File kinds.File f = refl

-- ---- both entries of a rename, once they are read

-- the target is an entry other than the root
pub target_there : {D : Type 0} {g : Ghosts D} (old one : Parts D g) (parent target : ℕ) (name : Name) → IsOpen old → Commits old one false → g.honest (device_of old.log) → IsName name → lookup (tree_in (view old.log) old.numbers) parent name ≡ Some target
    → (target ≢ 1) × (is_some (entry (tree_in (view one.log) one.numbers) target) ≡ true)
target_there old one parent target name is first h is_name some =
    let T : Tree = tree_in (view old.log) old.numbers in
    (target_not_top T (is.content h).volume.tree parent target name is_name some, ap (λ (U : Tree). is_some (entry U target)) (first.tree h) ∙ ap is_some (looked_up T parent target name some).1)

-- What is known of the entry that moves and of its target.
pub record AreRead (content : Image) (v : Superblock) (serial target : ℕ) (e t : Entry) (full : Bool) : Type 0 where
  pub one : slot_of content v serial ≡ Some e
  pub other : slot_of content v target ≡ Some t
  pub not_top : target ≢ 1
  pub kind_one : directory_at (tree_in content v) serial ≡ kind_is_directory e.kind
  pub kind_other : directory_at (tree_in content v) target ≡ kind_is_directory t.kind
  pub full_is : not (is_empty (tree_in content v) target) ≡ full
  pub bare : replacing e.kind t.kind full ≡ Ok tt → Childless (tree_in content v) target

pub are_read : {D : Type 0} {g : Ghosts D} (old one : Parts D g) (serial parent target : ℕ) (name : Name) (e t : Entry) (o : Option ℕ) → IsOpen old → Commits old one false → g.honest (device_of old.log) → 1 ≤ serial → 1 ≤ target → IsName name
    → MovesIn (tree_in (view old.log) old.numbers) serial parent → lookup (tree_in (view old.log) old.numbers) parent name ≡ Some target → MatchOption o (NoChildOver old.dirs target 0) (λ s. IsNextChild old.dirs target 0 s)
    → (serial ≢ 1 → is_some (entry (tree_in (view old.log) old.numbers) serial) ≡ true → slot_of (view old.log) old.numbers serial ≡ Some e)
    → (target ≢ 1 → is_some (entry (tree_in (view one.log) one.numbers) target) ≡ true → slot_of (view one.log) one.numbers target ≡ Some t) → AreRead (view old.log) old.numbers serial target e t (is_some o)
are_read old one serial parent target name e t o is first h serial_first target_first is_name m some child found found_target =
    let there = target_there old one parent target name is first h is_name some in
    let slot_one = found m.not_top m.used in
    let slot_other : slot_of (view old.log) old.numbers target ≡ Some t = sym (ap (λ (s : Slots). get_or s (target - 1) None) (first.slots h)) ∙ found_target there.0 there.1 in
    record {
      one = slot_one;
      other = slot_other;
      not_top = there.0;
      kind_one = kind_at (view old.log) old.numbers serial e serial_first slot_one;
      kind_other = kind_at (view old.log) old.numbers target t target_first slot_other;
      full_is = is_full (view old.log) old.numbers old.dirs (is.content h) (is.shows h) o target child;
      bare = λ okay. bare_target (view old.log) old.numbers old.dirs (is.content h) (is.shows h) o target e.kind t target_first slot_other child okay;
    }
