-- What taking an entry out of a volume leaves of its parts. `unlink`, `rmdir` and a rename onto another entry all go
-- through `TakesOut`: the entry is gone (`IsWithout`), or an operation has failed (`Fails`).
use Rattle.std.specs.Prelude.{◌≡◌, ◌≢◌, ◌↔◌, ◌+◌, ◌-◌, ◌≤◌, ℕ, Bool, true, false, List, Some, None, IsSome, set}
use Rattle.vol_sector.specs.Disk.{Image, Leaves}
use Rattle.vol_sector.specs.declared.device.Device.{Ghosts}
use Rattle.vol_inode.specs.declared.entry.Entry.{Entry}
use Rattle.vol_log.specs.Log.{view, device_of, room_of}
use Rattle.vol_dirs.specs.Names.{Names}
use Rattle.vol_tree.specs.declared.superblock.Superblock.{Superblock}
use Rattle.vol_tree.specs.declared.parts.Parts.{Parts}
use Rattle.vol_tree.specs.Tree as tree
use Rattle.vol_tree.specs.Tree.{changed}
use Rattle.vol_tree.specs.Clauses.{slots_in, tree_in}
use Rattle.vol_tree.specs.Opened.{ReflectsOr, Keeps, GoesOn}
use Rattle.vol_tree.specs.internal.Slots.{slot_of}
use Rattle.vol_tree.specs.Parts.{opened}
use Rattle.vol_tree.specs.internal.Parts.{IsOpen}
use Rattle.vol_tree.specs.internal.Changes.{Stages}

-- It is an entry, and not the root, and nothing stands in it.
pub record IsBare (T : tree.Tree) (serial : ℕ) : Type 0 where
  pub used : IsSome (tree.entry T serial)
  pub not_top : serial ≢ 1
  pub bare : (t : ℕ) (d : tree.Entry) → tree.entry T t ≡ Some d → d.parent ≢ serial

-- The entry is the serial's, and not the root's, and nothing stands in it.
pub record Removes (content : Image) (v : Superblock) (serial : ℕ) (e : Entry) : Type 0 where
  pub slot : slot_of content v serial ≡ Some e
  pub not_top : serial ≢ 1
  pub bare : (t : ℕ) (d : tree.Entry) → tree.entry (tree_in content v) t ≡ Some d → d.parent ≢ serial

-- It is a volume still, with the same tree, but an operation has failed.
pub record Fails {D : Type 0} {g : Ghosts D} (old new : Parts D g) : Type 0 where
  pub is_open : IsOpen new
  pub tree : g.honest (device_of old.log) → (opened new).tree ≡ (opened old).tree
  pub crash : g.honest (device_of old.log) → Leaves (g.disk (device_of old.log)) (g.disk (device_of new.log)) (ReflectsOr (g.disk (device_of old.log)) old.numbers (opened old).tree)
  pub kept : Keeps g.honest g.size g.failures (opened old) (opened new) true
  pub goes_on : GoesOn g.goes_on (opened old) (opened new)

-- The entry is gone, and all others are as they were.
pub record IsWithout {D : Type 0} {g : Ghosts D} (serial : ℕ) (old new : Parts D g) : Type 0 where
  pub is_open : IsOpen new
  pub stages : Stages old new
  pub tree : g.honest (device_of old.log) → (opened new).tree ≡ changed (opened old).tree serial None
  pub slots : g.honest (device_of old.log) → slots_in (view new.log) new.numbers.slots ≡ set (slots_in (view old.log) old.numbers.slots) (serial - 1) None
  pub room : room_of old.log ≤ room_of new.log + 6
  pub names : (p : ℕ) (n : List ℕ) (s : ℕ) → Names new.dirs p n s ↔ (Names old.dirs p n s × (s ≢ serial))

pub record TakesOut {D : Type 0} {g : Ghosts D} (serial : ℕ) (old new : Parts D g) (io : Bool) : Type 0 where
  pub gone : io ≡ false → IsWithout serial old new
  pub fails : io ≡ true → Fails old new
