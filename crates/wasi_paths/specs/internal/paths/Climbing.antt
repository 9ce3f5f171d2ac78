-- Going up from an entry, one parent at a time. `ClimbsTo` is the invariant of the loop by which `path_rename` finds
-- whether its target is the source or stands below it.
use Rattle.std.specs.Prelude.{◌≡◌, ◌-◌, ℕ, Some}
use Rattle.vol_sector.specs.Disk.{Disk}
use Rattle.vol_tree.specs.Tree.{Tree, Entry, entry}
use Rattle.vol_tree.specs.Calls.{is_within}
use Rattle.vol_tree.specs.Opened.{Opened}
use Rattle.path_walk.specs.Walk.{IsEntryOf}
use Rattle.wasi_bodies.specs.internal.paths.Walks.{StillWorks}

-- the entry stands in this directory
pub record IsAbove (T : Tree) (serial parent : ℕ) : Type 0 where
  pub below : Entry
  pub at : entry T serial ≡ Some below
  pub is : below.parent ≡ parent

-- this many steps up from the beginning
pub record ClimbsTo {D : Type 0} (honest : D → Type 0) (disk : D → Disk) (sectors_on failures : D → ℕ) (goes_on : ℕ → D → D → Type 0) (old new : Opened D) (top first slots step at : ℕ) : Type 0 where
  pub works : StillWorks honest disk sectors_on failures goes_on old new
  pub here : IsEntryOf honest new at
  pub same : honest old.device → is_within slots old.tree top first ≡ is_within (slots - step) old.tree top at
