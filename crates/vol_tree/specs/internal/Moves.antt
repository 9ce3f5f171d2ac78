-- What moving an entry asks and leaves. A rename climbs from the new directory towards the root, to see that this
-- directory isn't the entry or below it (`ClimbsTo`), and then gives the entry its new place (`MovesTo`).
use Rattle.std.specs.Prelude.{◌≡◌, ◌≢◌, ◌≤◌, ◌-◌, ℕ, false, Some, IsSome}
use Rattle.vol_sector.specs.declared.device.Device.{Ghosts}
use Rattle.vol_log.specs.Log.{device_of}
use Rattle.vol_tree.specs.declared.parts.Parts.{Parts}
use Rattle.vol_tree.specs.Tree.{Tree, Path, Name, Entry, entry, Leads, IsDirectory}
use Rattle.vol_tree.specs.Calls.{moved, is_within}
use Rattle.vol_tree.specs.internal.Commits.{ReadsOnly}
use Rattle.vol_tree.specs.Parts.{opened}
use Rattle.vol_tree.specs.internal.Parts.{IsOpen}
use Rattle.vol_tree.specs.internal.Changes.{Stages}

-- the entry may move into the directory
pub record MovesIn (T : Tree) (serial parent : ℕ) : Type 0 where
  pub used : IsSome (entry T serial)
  pub not_top : serial ≢ 1
  pub inside : IsDirectory T parent
  pub outside : (below : Path) → Leads T serial below parent → ⊥

-- and no other entry has the name there
pub record MovesToName (T : Tree) (serial parent : ℕ) (name : Name) : Type 0 where
  pub into : MovesIn T serial parent
  pub free : (x : ℕ) (d : Entry) → entry T x ≡ Some d → d.parent ≡ parent → d.name ≡ name → x ≡ serial

-- the entry is in this directory
pub record IsAbove (T : Tree) (serial parent : ℕ) : Type 0 where
  pub below : Entry
  pub at : entry T serial ≡ Some below
  pub is : below.parent ≡ parent

-- The entry has another place and name, and all else is as it was.
pub record MovesTo {D : Type 0} {g : Ghosts D} (serial parent : ℕ) (name : Name) (old new : Parts D g) : Type 0 where
  pub is_open : IsOpen new
  pub stages : Stages old new
  pub tree : g.honest (device_of old.log) → (opened new).tree ≡ moved (opened old).tree serial parent name

-- After some steps up from the directory the way has come to this one, and what is above it decides.
pub record ClimbsTo {D : Type 0} {g : Ghosts D} (start now : Parts D g) (serial directory step at : ℕ) : Type 0 where
  pub reads : ReadsOnly start now false
  pub first : 1 ≤ at
  pub last : at ≤ start.numbers.slots
  pub used : g.honest (device_of start.log) → IsSome (entry (opened start).tree at)
  pub same : g.honest (device_of start.log) → is_within (start.numbers.slots - step) (opened start).tree serial at ≡ is_within start.numbers.slots (opened start).tree serial directory
