-- What bringing a tar stream into a directory of the volume on a device leaves, and how it ends (`docs/USING.md`,
-- "Commands"). `PerformsImport` is the contract of `import_into`; `Imports` and `Halts` of `vol_tar` say which
-- tree comes of the members.
use Rattle.std.specs.Prelude.{◌≡◌, ◌⊎◌, ◌↔◌, ℕ, Bool, false, List, Option, Result, Ok, Err, OnOk}
use Rattle.vol_sector.specs.Disk.{Image, Disk, Leaves, counted}
use Rattle.vol_sector.specs.Fault.{is_device}
use Rattle.vol_sector.specs.declared.fault.Refused.{Refused}
use Rattle.vol_tree.specs.declared.superblock.Superblock.{Superblock}
use Rattle.vol_tree.specs.declared.errno.Errno.TheVariants as errno
use Rattle.vol_tree.specs.Tree.{Tree}
use Rattle.vol_tree.specs.Stands.{StandsAs}
use Rattle.vol_tree.specs.Clauses.{is_io}
use Rattle.vol_tree.specs.Opened.{geometry}
use Rattle.vol_tree.specs.Opening.{StandsOn}
use Rattle.vol_tar.specs.Import.{Halts, Imports, IsPartOfImport}
use Rattle.vol_tar.specs.Import as archive
use Rattle.sandbox_args.specs.Request.{Text}
use Rattle.vol_commands.specs.declared.importing.ImportFailure.{ImportFailure}
use Rattle.vol_commands.specs.declared.importing.ImportFailure.TheVariants.{Volume, Path, Halted}
use Rattle.vol_commands.specs.Tasks.{ReflectsAny, directory_named}
use Rattle.vol_commands.specs.Volumes.{IsRefused}

-- Which failures are the device's: fault 33, and errno 29 of a call on the tree.
abbrev pub blames_import : Result ℕ ImportFailure → Bool
blames_import (Ok count) = false
blames_import (Err (Volume fault)) = is_device fault
blames_import (Err (Path e)) = is_io {X = Unit {0}} (Err e)
blames_import (Err (Halted halted)) = archive.blames_device {X = Unit {0}} (Err halted.refusal.why)

-- the input is blamed where the import is
abbrev pub blames_input : Result ℕ ImportFailure → Bool
blames_input (Ok count) = false
blames_input (Err (Volume fault)) = false
blames_input (Err (Path e)) = false
blames_input (Err (Halted halted)) = archive.is_stream halted.refusal.why

-- The members of the stream are in the directory that the path names. Or the path is refused with its errno, and then
-- nothing is read and the tree stays; or the import came so far, and the member that it names is refused.
abbrev pub Brings : Superblock → Tree → Text → Option (List ℕ) → Option (List ℕ) → Tree → Result ℕ ImportFailure → Type 0
Brings v T path given unread U (Ok count) = (directory : ℕ) × (directory_named T path ≡ Ok directory) × Imports (geometry v) T directory given unread count U
Brings v T path given unread U (Err (Volume fault)) = ⊥
Brings v T path given unread U (Err (Path e)) = ((directory_named T path ≡ Err e) ⊎ (e ≡ errno.Io)) × (U ≡ T) × (unread ≡ given)
Brings v T path given unread U (Err (Halted halted)) = (directory : ℕ) × (directory_named T path ≡ Ok directory) × Halts (geometry v) T directory given halted U

-- what a stop inside an import may leave: the tree before it, or a part of it in the directory
abbrev pub IsPartOfBringing : Superblock → Tree → Text → Option (List ℕ) → Tree → Type 0
IsPartOfBringing v T path given U = (U ≡ T) ⊎ ((directory : ℕ) × (directory_named T path ≡ Ok directory) × IsPartOfImport (geometry v) T directory given U)

module _ {D : Type 0} (is_honest : D → Type 0) (disk : D → Disk) (sectors_on failures : D → ℕ) (path : Text) (device : D) (given unread : Option (List ℕ)) (left : D) (done : Result ℕ ImportFailure) where
  -- What reads give of the device stands for a tree, and the stream was brought into it.
  pub record WasBrought : Type 0 where
    pub numbers : Superblock
    pub tree : Tree
    pub stands : StandsOn (sectors_on device) (disk device).seen numbers tree
    pub new_tree : Tree
    pub brings : Brings numbers tree path given unread new_tree done
    pub crash : Leaves (disk device) (disk left) (ReflectsAny (disk device) numbers (IsPartOfBringing numbers tree path given))
    pub lasts : OnOk done ((c : Image) → (disk left).may_leave c → StandsAs c numbers new_tree)

  -- The volume is refused, and nothing read.
  pub record BringsNothing : Type 0 where
    pub refused : Refused D
    pub is : done ≡ Err (Volume refused.fault)
    pub left_is : left ≡ refused.device
    pub refusal : IsRefused is_honest disk sectors_on failures device refused
    pub reads_nothing : unread ≡ given

  -- The stream was brought in, or the volume is refused. Whatever the device does: 33 and 29 come only where one of its
  -- operations failed.
  pub record PerformsImport : Type 0 where
    pub ends : is_honest device → WasBrought ⊎ BringsNothing
    pub honest : is_honest device ↔ is_honest left
    pub size : sectors_on left ≡ sectors_on device
    pub failed : failures left ≡ counted (blames_import done) (failures device)
