-- What a walk over an open volume answers and leaves (`docs/PATHS.md`, "Walking"). Contracts of other crates cite
-- `Asked` of a volume that is only read: where its device keeps its model, the tree stays, and a crash leaves no more.
use Rattle.std.specs.Prelude.{◌≡◌, ◌⊎◌, ℕ, Bool, Option, Some, None, Result, Ok, Err, IsSome}
use Rattle.vol_sector.specs.Disk.{Disk, Leaves}
use Rattle.vol_inode.specs.Name.{IsName}
use Rattle.vol_tree.specs.declared.errno.Errno.{Errno}
use Rattle.vol_tree.specs.declared.errno.Errno.TheVariants as errno
use Rattle.vol_tree.specs.Tree.{entry}
use Rattle.vol_tree.specs.Opened.{Opened, Keeps, GoesOn, IsSerial}
use Rattle.path_walk.specs.declared.walking.Reached.{Reached as ReachedValue}
use Rattle.path_walk.specs.declared.walking.Reached.TheVariants as values
use Rattle.path_walk.specs.Paths.{Reached, Found, Missing}

-- An entry of the volume: its number is in range on any device, and is used where the device keeps its model.
pub record IsEntryOf {D : Type 0} (honest : D → Type 0) (v : Opened D) (serial : ℕ) : Type 0 where
  pub number : IsSerial v.numbers serial
  pub used : honest v.device → IsSome (entry v.tree serial)

-- what a look-up gives, where it gives anything, is an entry
abbrev pub IsNext : {D : Type 0} → (D → Type 0) → Opened D → Option ℕ → Type 0
IsNext honest v None = Unit {0}
IsNext honest v (Some serial) = IsEntryOf honest v serial

abbrev pub reached_as : ReachedValue → Reached
reached_as (values.Found serial) = Found serial
reached_as (values.Missing parent name) = Missing parent name.now

-- what was reached is an entry; what is missing is a name, and its directory is an entry
abbrev pub IsReached : {D : Type 0} → (D → Type 0) → Opened D → ReachedValue → Type 0
IsReached honest v (values.Found serial) = IsEntryOf honest v serial
IsReached honest v (values.Missing parent name) = IsEntryOf honest v parent × IsName name.now

-- the definition's answer, or 29
abbrev pub GivesOrIo : Result Reached Errno → Result ReachedValue Errno → Type 0
GivesOrIo meant (Ok r) = meant ≡ Ok (reached_as r)
GivesOrIo meant (Err e) = (meant ≡ Err e) ⊎ (e ≡ errno.Io)

-- A volume was only asked: where its device keeps its model, the tree is the same, and a crash leaves nothing new. On
-- any device it goes on.
pub record Asked {D : Type 0} (honest : D → Type 0) (disk : D → Disk) (size failures : D → ℕ) (goes_on : ℕ → D → D → Type 0) (old new : Opened D) (io : Bool) : Type 0 where
  pub tree : honest old.device → new.tree ≡ old.tree
  pub crash : honest old.device → Leaves (disk old.device) (disk new.device) (λ c. ⊥)
  pub kept : Keeps honest size failures old new io
  pub goes : GoesOn goes_on old new

-- the same of what was reached and whether the path wants a directory
abbrev pub GivesBoth : Result (Reached × Bool) Errno → Result (ReachedValue × Bool) Errno → Type 0
GivesBoth meant (Ok r) = meant ≡ Ok (reached_as r.0, r.1)
GivesBoth meant (Err e) = (meant ≡ Err e) ⊎ (e ≡ errno.Io)
