-- What printing a directory of the volume on a device as a tar stream prints, and how it ends (`docs/USING.md`,
-- "Commands"). `PerformsExport` is the contract of `export_from`; what is printed is said by `Exports` of
-- `vol_tar` at success, and by its `ExportsPart` where the export is refused on its way.
use Rattle.std.specs.Prelude.{◌≡◌, ◌⊎◌, ◌↔◌, ℕ, Bool, false, List, Option, Result, Ok, Err}
use Rattle.std.specs.Io.KnownBytes.{Keeps}
use Rattle.vol_sector.specs.Disk.{Disk, Leaves, counted}
use Rattle.vol_sector.specs.Fault.{is_device}
use Rattle.vol_sector.specs.declared.fault.Refused.{Refused}
use Rattle.vol_tree.specs.declared.superblock.Superblock.{Superblock}
use Rattle.vol_tree.specs.declared.errno.Errno.TheVariants as errno
use Rattle.vol_tree.specs.Tree.{Tree}
use Rattle.vol_tree.specs.Stands.{StandsAs}
use Rattle.vol_tree.specs.Clauses.{is_io}
use Rattle.vol_tree.specs.Opening.{StandsOn}
use Rattle.vol_tar.specs.Export.{Exports, ExportsPart, HasMisfit, RefusesExport}
use Rattle.vol_tar.specs.Import as archive
use Rattle.sandbox_args.specs.Request.{Text}
use Rattle.vol_commands.specs.declared.exporting.ExportFailure.{ExportFailure}
use Rattle.vol_commands.specs.declared.exporting.ExportFailure.TheVariants.{Volume, Path, Stopped}
use Rattle.vol_commands.specs.Tasks.{directory_named}
use Rattle.vol_commands.specs.Volumes.{IsRefused}

-- Which failures are the device's: fault 33, and errno 29 of a call on the tree.
abbrev pub blames_export : Result (Unit {0}) ExportFailure → Bool
blames_export (Ok x) = false
blames_export (Err (Volume fault)) = is_device fault
blames_export (Err (Path e)) = is_io {X = Unit {0}} (Err e)
blames_export (Err (Stopped why)) = archive.blames_device {X = Unit {0}} (Err why)

-- and which are the output's: fault 41
abbrev pub blames_output : Result (Unit {0}) ExportFailure → Bool
blames_output (Ok x) = false
blames_output (Err (Volume fault)) = false
blames_output (Err (Path e)) = false
blames_output (Err (Stopped why)) = archive.is_stream why

-- All entries below the directory that the path names were printed. Or the path is refused with its errno, and nothing is
-- printed; or a beginning of them was printed, and the cause says why no more.
abbrev pub PrintsDirectory : Tree → Text → Option (List ℕ) → Option (List ℕ) → Result (Unit {0}) ExportFailure → Type 0
PrintsDirectory T path before after (Ok x) = (directory : ℕ) × (directory_named T path ≡ Ok directory) × Exports T directory before after
PrintsDirectory T path before after (Err (Volume fault)) = ⊥
PrintsDirectory T path before after (Err (Path e)) = ((directory_named T path ≡ Err e) ⊎ (e ≡ errno.Io)) × Keeps before after
PrintsDirectory T path before after (Err (Stopped why)) = (directory : ℕ) × (directory_named T path ≡ Ok directory) × ExportsPart T directory before after × RefusesExport (HasMisfit T directory) why

module _ {D : Type 0} (is_honest : D → Type 0) (disk : D → Disk) (sectors_on failures : D → ℕ) (path : Text) (device : D) (before after : Option (List ℕ)) (left : D) (done : Result (Unit {0}) ExportFailure) where
  -- What reads give of the device stands for a tree, of which the directory was printed; each crash leaves what it could
  -- leave before, or the tree.
  pub record WasExported : Type 0 where
    pub numbers : Superblock
    pub tree : Tree
    pub stands : StandsOn (sectors_on device) (disk device).seen numbers tree
    pub prints : PrintsDirectory tree path before after done
    pub crash : Leaves (disk device) (disk left) (λ c. StandsAs c numbers tree)

  -- The volume is refused, and nothing printed.
  pub record ExportsNothing : Type 0 where
    pub refused : Refused D
    pub is : done ≡ Err (Volume refused.fault)
    pub left_is : left ≡ refused.device
    pub refusal : IsRefused is_honest disk sectors_on failures device refused
    pub prints_nothing : Keeps before after

  -- The directory was printed, or the volume is refused. Whatever the device does: 33 and 29 come only where one of its
  -- operations failed.
  pub record PerformsExport : Type 0 where
    pub ends : is_honest device → WasExported ⊎ ExportsNothing
    pub honest : is_honest device ↔ is_honest left
    pub size : sectors_on left ≡ sectors_on device
    pub failed : failures left ≡ counted (blames_export done) (failures device)
