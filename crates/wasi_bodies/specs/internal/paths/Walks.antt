-- What a walk from an open directory says of the row that makes it. A walk that reaches an entry, or a name that may be
-- made, lets the row go on in the same world; any other stops the row with its errno.
use Rattle.std.specs.Prelude.{◌≡◌, ℕ, false, List, Result, Ok, Err}
use Rattle.vol_sector.specs.Disk.{Disk, Leaves}
use Rattle.vol_tree.specs.declared.errno.Errno.{Errno}
use Rattle.vol_tree.specs.Numbers.{number_of}
use Rattle.vol_tree.specs.Opened.{Opened, Keeps, GoesOn}
use Rattle.vol_tree.specs.Tree.{Tree, IsDirectory}
use Rattle.path_walk.specs.declared.walking.Reached.{Reached as ReachedValue}
use Rattle.path_walk.specs.declared.walking.Reached.TheVariants as values
use Rattle.path_walk.specs.Walk.{reached_as}
use Rattle.path_walk.specs.Paths.{Reached}
use Rattle.wasi_fd.specs.declared.descriptor.Opened.{Opened as OpenedEntry}
use Rattle.wasi_bodies.specs.World.{World}
use Rattle.wasi_bodies.specs.Checks.{Checked, Done, ◌>>=◌, ◌>>◌, entry_at, only_directories, range, walk, with_result}
use Rattle.wasi_bodies.specs.Calls.{Answered}
use Rattle.wasi_bodies.specs.paths.Rows.{path_at}
use Rattle.wasm_store.specs.declared.call.Errno.{Errno as Number}
use Rattle.wasi_bodies.specs.internal.Asking.{Passes, Stops}
use Rattle.wasi_bodies.specs.internal.Entries.{with_volume}

-- what is missing may be made in a directory
abbrev pub Places : Tree → Result ReachedValue Errno → Type 0
Places T (Ok (values.Found serial)) = Unit {0}
Places T (Ok (values.Missing parent name)) = IsDirectory T parent
Places T (Err e) = Unit {0}

-- the checks of a call on a path before it is walked
abbrev pub starting_directory : World → List ℕ → ℕ → ℕ → ℕ → ℕ → Checked OpenedEntry
starting_directory w memory fd rights path len = do
  o ← entry_at w fd only_directories rights
  range memory path len
  Ok o

-- what a path reaches from an open directory
abbrev pub reached_from : World → List ℕ → ℕ → ℕ → ℕ → ℕ → Checked Reached
reached_from w memory fd rights path len = do
  o ← entry_at w fd only_directories rights
  range memory path len
  path_at w memory o path len

module _ {D : Type 0} (honest : D → Type 0) (disk : D → Disk) (sectors_on failures : D → ℕ) (goes_on : ℕ → D → D → Type 0) where
  -- the volume was only asked, and still works
  pub record StillWorks (old new : Opened D) : Type 0 where
    pub kept : Keeps honest sectors_on failures old new false
    pub tree : honest old.device → new.tree ≡ old.tree
    pub crash : honest old.device → Leaves (disk old.device) (disk new.device) (λ c. ⊥)
    pub goes : GoesOn goes_on old new

-- what is reached in the world, or why nothing is
abbrev pub ReachesFrom : {D : Type 0} → Opened D → World → OpenedEntry → List ℕ → Result ReachedValue Errno → Type 0
ReachesFrom new w o text (Ok r) = Passes (λ v. walk v o text) w new (reached_as r)
ReachesFrom new w o text (Err e) = Stops (λ v. walk v o text) w new (number_of e)

-- A body that finds bytes to be written at a place: the row is done by them in the same world, or the call answers.
abbrev pub FindsBytes : {D : Type 0} → (World → Checked Done) → World → List ℕ → Opened D → ℕ → Result (List ℕ) Number → Type 0
FindsBytes run w memory new at (Ok bytes) = (run w ≡ Ok (with_result w at bytes)) × (with_volume new w ≡ w)
FindsBytes run w memory new at (Err e) = Answered run w memory (with_volume new w) memory e.0
