-- What the calls of a session say, at the types that a host in C has (`HostTypes`), so that the other files can leave these out.
use Rattle.std.specs.Prelude.{ℕ, List, Result}
use Rattle.std.specs.Borrow.{Bor}
use Rattle.vol_sector.specs.declared.fault.Refused.{Refused}
use Rattle.wasm_syntax.specs.declared.module.Module.{Module}
use Rattle.wasm_steps.specs.declared.pause.Pause.{Pause}
use Rattle.sandbox_device.specs.declared.recorded_device.RecordedDevice.{RecordedDevice}
use Rattle.sandbox_core.specs.Session as core
use Rattle.sandbox_core.specs.declared.session.Finished.{Finished}
use Rattle.sandbox_core.specs.declared.report.Report.{Report}
use Rattle.sandbox_core.specs.Report as report
pub use Rattle.sandbox_host.specs.HostTypes.{IsHonest, disk_of, size_of, failures_of, Bytes, remaining, items_written, gave, took, took_none, known, State, HostVolume, HandleParts}

-- the report of a run
abbrev pub HostReport : Type 0
HostReport = Report RecordedDevice (Bor (List ℕ)) Bytes Bytes

-- what the calls of a session say, at these types
abbrev pub Opens : Module → HandleParts → State → Type 0
Opens = core.Opens

abbrev pub Shares : HandleParts → State → Type 0
Shares = core.Shares known.device

abbrev pub Resumes : State → State → ℕ → Pause → Type 0
Resumes = core.Resumes known

abbrev pub Commits : HostVolume → Result HostVolume (Refused RecordedDevice) → Type 0
Commits = core.Commits known.device

abbrev pub FinishesAll : State → Finished RecordedDevice (Bor (List ℕ)) Bytes Bytes → Type 0
FinishesAll = core.Finishes known.device

abbrev pub Reports : State → ℕ → HostReport → Type 0
Reports = report.Reports known
