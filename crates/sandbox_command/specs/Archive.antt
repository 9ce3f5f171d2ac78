-- The volume in memory that a run begins with where it is made of a tar stream (`docs/USING.md`, "Options of `run`"): what
-- `format` makes of sectors of zeros, as many as the length of the stream says, and what `import` brings into the root of that.
use Rattle.std.specs.Prelude.{◌≡◌, ◌⊎◌, ◌+◌, ◌*◌, ◌/◌, ℕ, List, [], Option, Some, Result, Ok, Err, length, min, replicate, codes, if◌then◌else◌, nat_le}
use Rattle.vol_sector.specs.declared.fault.VolumeFault.TheVariants as fault
use Rattle.vol_sector.specs.Record.{image_of}
use Rattle.vol_tree.specs.declared.superblock.Superblock.{Superblock}
use Rattle.vol_tree.specs.Tree.{Tree}
use Rattle.vol_tree.specs.Stands.{StandsAs, empty_tree}
use Rattle.vol_tree.specs.Fresh.{fresh_as}
use Rattle.vol_tree.specs.Opened.{Opened, geometry}
use Rattle.vol_inode.specs.declared.version.Version.{Version}
use Rattle.vol_inode.specs.declared.version.Version.TheVariants.{Two, Four}
use Rattle.sandbox_device.specs.declared.ram_device.RamDevice.{RamDevice}
use Rattle.vol_tar.specs.declared.reasons.TarReason.{TarReason}
use Rattle.vol_tar.specs.declared.reasons.TarReason.TheVariants as why
use Rattle.vol_commands.specs.declared.failure.Failure.{Failure}
use Rattle.vol_commands.specs.declared.failure.Failure.TheVariants as failure
use Rattle.vol_commands.specs.declared.importing.ImportFailure.{ImportFailure}
use Rattle.vol_commands.specs.declared.importing.ImportFailure.TheVariants as importing
use Rattle.vol_commands.specs.Formatting.{Formats}
use Rattle.vol_tar.specs.Export.{Exports}
use Rattle.vol_tar.specs.Import.{Imports}
use Rattle.vol_commands.specs.Exporting.{PerformsExport}
use Rattle.vol_commands.specs.Importing.{PerformsImport}
use Rattle.vol_commands.specs.Tasks.{directory_named}
use Rattle.vol_commands.specs.Volumes.{IsOpen}
use Rattle.sandbox_report.specs.declared.fault.Fault.{Fault}
use Rattle.sandbox_report.specs.declared.fault.Fault.TheVariants as reason
use Rattle.sandbox_report.specs.declared.summary.VolumeEnd.TheVariants as became
use Rattle.sandbox_report.specs.declared.summary.Summary.{Summary}
use Rattle.sandbox_args.specs.declared.request.Run.{Run}
use Rattle.sandbox_command.specs.Around.{in_memory}
use Rattle.sandbox_telling.specs.Reporting.{not_run}
use Rattle.sandbox_runs.specs.Status.{import_status}

-- ---- how large it is

-- the blocks of 512 bytes of a stream of so many bytes, and one more
abbrev pub blocks_of : ℕ → ℕ
blocks_of bytes = bytes / 512 + 1

-- A volume of version 2 has as many slots as such a stream may need up to this length.
abbrev pub version_of : (blocks : ℕ) → Version
version_of blocks = if nat_le blocks 7168 then Two else Four

-- A member takes a block at least; 1,024 entries more are the guest's.
abbrev pub slots_of : (blocks : ℕ) → ℕ
slots_of blocks = min (blocks + 1024) 1048576

-- twice the stream, and 8 MiB more for the guest
abbrev pub sectors_of : (blocks : ℕ) → ℕ
sectors_of blocks = min (2 * blocks + 16384 + slots_of blocks + 122) 16777216

-- ---- how it is made

-- So many sectors of zeros were formatted, and so that ended.
pub record IsFormatted (blocks : ℕ) (device : RamDevice) (done : Result (Unit {0}) Failure) : Type 0 where
  pub new : RamDevice
  pub zeros : new.sectors ≡ replicate (sectors_of blocks) (replicate 512 0)
  pub formats : Formats (version_of blocks) in_memory.honest in_memory.disk in_memory.size in_memory.failures new (sectors_of blocks) (slots_of blocks) device done

-- The stream was imported into the root of a volume that was made for it, and so that ended.
pub record IsImported (bytes : List ℕ) (device : RamDevice) (done : Result ℕ ImportFailure) : Type 0 where
  pub empty : RamDevice
  pub formatted : IsFormatted (blocks_of (length bytes)) empty (Ok tt)
  pub unread : Option (List ℕ)
  pub imports : PerformsImport in_memory.honest in_memory.disk in_memory.size in_memory.failures (codes "/") empty (Some bytes) unread device done

-- a refusal to format it as one of the import
abbrev pub of_formatting : Failure → ImportFailure
of_formatting (failure.Volume f) = importing.Volume f
of_formatting (failure.Tree e) = importing.Path e
of_formatting failure.Stream = importing.Volume fault.Device

-- no such volume was made: memory for the sectors was refused, or formatting them
abbrev pub IsUnmade : (blocks : ℕ) → ImportFailure → Type 0
IsUnmade blocks refusal = (refusal ≡ importing.Volume fault.Memory)
    ⊎ ((left : RamDevice) × (f : Failure) × IsFormatted blocks left (Err f) × (refusal ≡ of_formatting f))

-- The device has the volume that was made of the stream; or no volume was made for it, or it was refused as `import` refuses one.
abbrev pub Fills : List ℕ → Result RamDevice ImportFailure → Type 0
Fills bytes (Ok device) = (count : ℕ) × IsImported bytes device (Ok count)
Fills bytes (Err refusal) = IsUnmade (blocks_of (length bytes)) refusal ⊎ ((left : RamDevice) × IsImported bytes left (Err refusal))

-- ---- what it has

-- The volume is of this size, and has the tree that the members of the stream make in the root of an empty one.
pub record HasStream (bytes : List ℕ) (v : Opened RamDevice) : Type 0 where
  pub numbers : v.numbers ≡ fresh_as (version_of (blocks_of (length bytes))) (sectors_of (blocks_of (length bytes))) (slots_of (blocks_of (length bytes)))
  pub root : ℕ
  pub is_root : directory_named (empty_tree (slots_of (blocks_of (length bytes)))) (codes "/") ≡ Ok root
  pub count : ℕ
  pub unread : Option (List ℕ)
  pub imports : Imports (geometry v.numbers) (empty_tree (slots_of (blocks_of (length bytes)))) root (Some bytes) unread count v.tree

-- a volume that was made of a stream, and that was opened, has that
abbrev pub BeginsWithItsStream : Type 0
BeginsWithItsStream = (bytes : List ℕ) (device : RamDevice) (v : Opened RamDevice) → Fills bytes (Ok device)
    → IsOpen in_memory.honest in_memory.disk in_memory.size in_memory.failures device v → HasStream bytes v

-- ---- what it gives

-- A device in memory that stands for a tree gives that tree as a tar stream, if it gives one: all entries below the root.
abbrev pub GivesItsTree : Type 0
GivesItsTree = (device after : RamDevice) (stream : List ℕ) (numbers : Superblock) (tree : Tree) → StandsAs (image_of device.sectors) numbers tree
    → PerformsExport in_memory.honest in_memory.disk in_memory.size in_memory.failures (codes "/") device (Some []) (Some stream) after (Ok tt)
    → (root : ℕ) × (directory_named tree (codes "/") ≡ Ok root) × Exports tree root (Some []) (Some stream)

-- ---- what is reported where it is refused

-- A stream that is no tar stream, or that a volume can't have, is a setting that can't be.
abbrev pub reason_of_why : TarReason → Fault
reason_of_why why.Stream = reason.File
reason_of_why why.Memory = reason.Memory
reason_of_why w = reason.Setting

abbrev pub import_reason : ImportFailure → Fault
import_reason (importing.Volume f) = reason.Volume f
import_reason (importing.Path e) = reason.Setting
import_reason (importing.Halted halted) = reason_of_why halted.refusal.why

abbrev pub unfilled : Run → ImportFailure → Summary
unfilled run refusal = not_run run (import_reason refusal) became.None (import_status refusal)
