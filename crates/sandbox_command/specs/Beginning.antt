-- What a run on sectors in memory begins with (`IsImage`), and what is reported of a run that is not executed, since a
-- file or memory is refused (`unread`). A run alone (`Alone`) and a test of a list (`ListOfTests`) both cite these.
use Rattle.std.specs.Prelude.{◌≡◌, ◌≤◌, ℕ, List, Option, Some, None, length, replicate}
use Rattle.std.specs.Borrow.{Bor}
use Rattle.std.specs.declared.io.ErrorKind.{ErrorKind}
use Rattle.std.specs.declared.io.ErrorKind.TheVariants as input
use Rattle.vol_sector.specs.Disk.{Disk}
use Rattle.sandbox_device.specs.declared.ram_device.RamDevice.{RamDevice}
use Rattle.sandbox_device.specs.Ram.{held}
use Rattle.sandbox_report.specs.declared.fault.Fault.TheVariants as reason
use Rattle.sandbox_report.specs.declared.summary.VolumeEnd.TheVariants as became
use Rattle.sandbox_report.specs.declared.summary.Summary.{Summary}
use Rattle.sandbox_args.specs.declared.request.Run.{Run}
use Rattle.sandbox_args.specs.Request.{Text}
use Rattle.sandbox_telling.specs.Reporting.{not_run}

-- what is known of the disk of a device in memory
abbrev pub memory_disk : RamDevice → Disk
memory_disk d = held d.sectors d.past.images

-- the sectors of an image, 16,777,216 at most; without one 202 of zeros
abbrev pub IsImage : Option (Bor Text) → List (List ℕ) → Type 0
IsImage None sectors = sectors ≡ replicate 202 (replicate 512 0)
IsImage (Some file) sectors = length sectors ≤ 16777216

-- the report of a run whose file is refused so
abbrev pub unread : Run → ErrorKind → Summary
unread run input.OutOfMemory = not_run run reason.Memory became.None 122
unread run kind = not_run run reason.File became.None 124
