-- What the files of the system were to a command, by the evidence of those that asked for them (`crates/sandbox_device`): a file that was
-- opened under a name, sectors that were read of it, bytes that it got. `HostPlaces` has this of the files that it gives.
use Rattle.std.specs.declared.rt.LibcRuntime.{LibcRuntime}
use Rattle.std.specs.Prelude.{◌⊎◌, ℕ, List, string_bytes}
use Rattle.sandbox_device.specs.declared.opening.FileOutput.{FileOutput}
use Rattle.sandbox_device.specs.declared.ram_device.RamDevice.{RamDevice}
use Rattle.sandbox_device.specs.declared.replacing.Replacement.{Replacement}
use Rattle.std.specs.declared.fs.File.{File}
use Rattle.sandbox_device.specs.FileEvidence.{AreRead, WasLocked, WasRead, WasRefused}
use Rattle.sandbox_device.specs.Named.{IsForName, IsGiven, WasOpened}
use Rattle.sandbox_device.specs.Written.{CutsOnce, Puts, Refuses, WasCut, WasPut}
use Rattle.sandbox_args.specs.Request.{Text}
use Rattle.stream_answers.specs.System.{HasRefused, WasGiven as Gave}
use Rattle.sandbox_places.specs.declared.host_volume.HostVolume.{HostVolume}
use Rattle.stream_answers.specs.Pieces.{AtLast, Gives, IsWhole}

-- A file of an output was cut, if it wasn't before, and got bytes at its end.
abbrev pub FileTook : FileOutput → List ℕ → FileOutput → Type 0
FileTook before bytes after = Puts WasCut WasPut before.on bytes after.on

-- It refused to be cut, or what was asked of it then.
abbrev pub FileRefused : FileOutput → FileOutput → Type 0
FileRefused before after = Refuses WasCut WasRefused before.on after.on

-- It was opened or made under this name, and at the most cut since.
abbrev pub IsOutput : Text → FileOutput → Type 0
IsOutput name it = WasOpened name it.on.file ⊎ ((made : FileOutput) × WasOpened name made.on.file × CutsOnce WasCut made.on it.on)

-- A file that was opened or made under this name, and at the most cut since, took this text, piece by piece.
abbrev pub WasPrinted : (name text : Text) → Type 0
WasPrinted name text = (it : FileOutput) × IsOutput name it × (after : FileOutput) × Gives FileTook it text after

-- It was opened under this name and locked, and its sectors are those that were read of it.
abbrev pub IsVolume : Text → HostVolume → Type 0
IsVolume name it = WasOpened name it.device.file × WasLocked it.device.file × AreRead WasRead it.device.file it.device.sectors

-- Its sectors are those that were read of a file which was opened under this name.
abbrev pub IsImageOfName : Text → RamDevice → Type 0
IsImageOfName name it = (file : File) × WasOpened name file × AreRead WasRead file it.sectors

-- The file of this name got these bytes.
abbrev pub WasGiven : (name bytes : Text) → Type 0
WasGiven name bytes = (it : Replacement) × IsForName name it × IsGiven LibcRuntime (string_bytes it.path) it.old bytes

-- A file that was opened under this name gave these bytes: all that it had, or as many as were wanted.
abbrev pub IsRead : Text → ℕ → Text → Type 0
IsRead name most bytes = (file : File) × WasOpened name file × (last : File) × IsWhole (AtLast Gave HasRefused) most file bytes last
