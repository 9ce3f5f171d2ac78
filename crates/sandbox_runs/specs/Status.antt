-- The exit statuses of the program (`docs/USING.md`, "How a run ends"); those of an inspection stand in `Inspecting`.
-- `EndsWith` is for a run whose guest ran, `ended_status` for formatting, a task, an import or an export; in all
-- functions here 122 means out of memory.
use Rattle.std.specs.Prelude.{◌≡◌, ℕ, Bool, Result, Ok, Err, if◌then◌else◌, nat_le}
use Rattle.std.specs.declared.io.ErrorKind.{ErrorKind as InputKind}
use Rattle.std.specs.declared.io.ErrorKind.TheVariants as input
use Rattle.clap.specs.declared.error.kind.ErrorKind.{ErrorKind as LineKind}
use Rattle.clap.specs.declared.error.kind.ErrorKind.TheVariants as line
use Rattle.wasm_syntax.specs.declared.fault.LoadFault.{LoadFault}
use Rattle.wasm_syntax.specs.declared.fault.LoadFault.TheVariants as loading
use Rattle.wasm_steps.specs.declared.pause.Outcome.{Outcome}
use Rattle.wasm_steps.specs.declared.pause.Outcome.TheVariants.{Exited, Trapped, OutOfFuel, OutOfMemory}
use Rattle.sandbox_core.specs.declared.fault.SessionFault.{SessionFault}
use Rattle.sandbox_core.specs.declared.fault.SessionFault.TheVariants as opening
use Rattle.vol_sector.specs.declared.fault.VolumeFault.{VolumeFault}
use Rattle.vol_sector.specs.declared.fault.VolumeFault.TheVariants as volume
use Rattle.vol_tar.specs.declared.reasons.TarReason.{TarReason}
use Rattle.vol_tar.specs.declared.reasons.TarReason.TheVariants as why
use Rattle.vol_commands.specs.declared.failure.Failure.{Failure}
use Rattle.vol_commands.specs.declared.importing.ImportFailure.{ImportFailure}
use Rattle.vol_commands.specs.declared.importing.ImportFailure.TheVariants as importing
use Rattle.vol_commands.specs.declared.exporting.ExportFailure.{ExportFailure}
use Rattle.vol_commands.specs.declared.exporting.ExportFailure.TheVariants as exporting
use Rattle.vol_commands.specs.declared.failure.Failure.TheVariants.{Volume}

-- the guest's own status, where it isn't greater than 119
abbrev pub status_of : Outcome → ℕ
status_of (Exited n) = if nat_le n 119 then n else 119
status_of (Trapped t) = 120
status_of OutOfFuel = 121
status_of OutOfMemory = 122

-- The status after a run that left this: 123 where its calls couldn't be committed; else that of its outcome, or 124
-- where an output couldn't be flushed. When a flush fails, no writer says.
abbrev pub EndsWith : {V R : Type 0} → Outcome → Result V R → (flushed : Bool) → ℕ → Type 0
EndsWith outcome (Ok volume) flushed status = status ≡ (if flushed then status_of outcome else 124)
EndsWith outcome (Err refused) flushed status = status ≡ 123

abbrev pub load_status : LoadFault → ℕ
load_status loading.Memory = 122
load_status f = 124

abbrev pub session_status : SessionFault → ℕ
session_status opening.Memory = 122
session_status f = 124

-- where a volume is refused
abbrev pub volume_status : VolumeFault → ℕ
volume_status volume.Memory = 122
volume_status f = 124

-- where a file can't be opened, made, read or written
abbrev pub file_status : InputKind → ℕ
file_status input.OutOfMemory = 122
file_status k = 124

-- where the words of the command line can't be read
abbrev pub words_status : InputKind → ℕ
words_status input.OutOfMemory = 122
words_status k = 125

-- where the command line is refused, or help or the version is asked for
abbrev pub command_line_status : LineKind → ℕ
command_line_status line.OutOfMemory = 122
command_line_status k = 125

-- of a task on a volume
abbrev pub failure_status : Failure → ℕ
failure_status (Volume volume.Memory) = 122
failure_status f = 124

-- of a member that isn't taken, or of a directory that isn't printed
abbrev pub why_status : TarReason → ℕ
why_status why.Memory = 122
why_status w = 124

-- of an import
abbrev pub import_status : ImportFailure → ℕ
import_status (importing.Volume fault) = failure_status (Volume fault)
import_status (importing.Path e) = 124
import_status (importing.Halted halted) = why_status halted.refusal.why

-- of an export
abbrev pub export_status : ExportFailure → ℕ
export_status (exporting.Volume fault) = failure_status (Volume fault)
export_status (exporting.Path e) = 124
export_status (exporting.Stopped w) = why_status w

-- The status after formatting, a task, an import or an export: 0 where it was done, or 124 where then the output couldn't be
-- flushed; else its failure's.
abbrev pub ended_status : {X E : Type 0} → (E → ℕ) → Result X E → (flushed : Bool) → ℕ
ended_status failed (Ok x) flushed = if flushed then 0 else 124
ended_status failed (Err e) flushed = failed e
