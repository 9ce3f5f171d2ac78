-- Refusals, outcomes and pauses as the numbers that a host is told (`include/sandbox.h`). Contracts speak of a fault or
-- a pause, and these functions say which number a host in C gets for it.
use Rattle.std.specs.Prelude.{ℕ, ◌-◌, ◌^◌, min, unwrap_or}
use Rattle.wasm_syntax.specs.declared.fault.LoadFault.{LoadFault}
use Rattle.sandbox_core.specs.declared.fault.SessionFault.{SessionFault}
use Rattle.sandbox_core.specs.declared.fault.SessionFault.TheVariants as opening
use Rattle.vol_sector.specs.declared.fault.VolumeFault.{VolumeFault}
use Rattle.vol_sector.specs.declared.fault.VolumeFault.TheVariants as volume
use Rattle.wasm_store.specs.declared.fault.InstanceFault.{InstanceFault}
use Rattle.wasm_places.specs.declared.invocable.Event.{Event}
use Rattle.wasm_places.specs.declared.invocable.Event.TheVariants as event
use Rattle.plugin_session.specs.declared.handling.Misuse.{Misuse}
use Rattle.plugin_session.specs.declared.handling.Misuse.TheVariants as misuse
use Rattle.fed_input.specs.declared.fed.NotFed.{NotFed}
use Rattle.fed_input.specs.declared.fed.NotFed.TheVariants as notFed
use Rattle.fed_session.specs.declared.feeding.FedEvent.{FedEvent}
use Rattle.fed_session.specs.declared.feeding.FedEvent.TheVariants as fedEvent
use Rattle.sandbox_report.specs.declared.fault.Fault.{Fault}
use Rattle.sandbox_report.specs.declared.fault.Fault.TheVariants.{Module, Volume, Instance, Setting, Preopen, Memory}
use Rattle.sandbox_report.specs.Faults.{fault_answer, load_offset}
use Rattle.sandbox_host.specs.declared.numbers.Why.{Why}
use Rattle.sandbox_host.specs.declared.numbers.Told.{Told}
pub use Rattle.sandbox_host.specs.Telling.{call_number, told_end, told_pause}

-- ---- faults, as the program numbers them (`sandbox_report`), and 40 for memory

abbrev pub why_of : LoadFault → Why
why_of fault = record { fault = fault_answer (Module fault); offset = unwrap_or (load_offset fault) 0 }

abbrev pub session_fault : SessionFault → Fault
session_fault opening.Setting = Setting
session_fault (opening.Instance fault) = Instance fault
session_fault opening.Device = Volume volume.Device
session_fault opening.Preopen = Preopen
session_fault opening.Memory = Memory

abbrev pub session_number : SessionFault → ℕ
session_number fault = fault_answer (session_fault fault)

abbrev pub instance_number : InstanceFault → ℕ
instance_number fault = fault_answer (Instance fault)

abbrev pub volume_number : VolumeFault → ℕ
volume_number fault = fault_answer (Volume fault)

-- ---- an event

abbrev pub told_event : Event → ℕ → Told
told_event event.Returned used = record { kind = 6; code = 0; call = 0; used = used }
told_event (event.Asked x) used = record { kind = 7; code = 0; call = min x (2 ^ 32 - 1); used = used }
told_event (event.Paused p) used = told_pause p used

-- of an instance whose input may go on: how many bytes its guest asks for, where fewer are there
abbrev pub told_fed_event : FedEvent → ℕ → Told
told_fed_event (fedEvent.Event e) used = told_event e used
told_fed_event (fedEvent.Starved count) used = record { kind = 8; code = min count (2 ^ 32 - 1); call = 0; used = used }

-- ---- mistakes with an instance

abbrev pub misuse_number : Misuse → ℕ
misuse_number misuse.Idle = 102
misuse_number misuse.AtWork = 103
misuse_number misuse.Asked = 104
misuse_number misuse.NotAsked = 105
misuse_number misuse.Stopped = 106
misuse_number misuse.Over = 107
misuse_number misuse.NoFunction = 108
misuse_number misuse.Mistyped = 109
misuse_number misuse.PastEnd = 110

-- ---- input that isn't taken

abbrev pub not_fed_number : NotFed → ℕ
not_fed_number notFed.Ended = 111
not_fed_number notFed.Memory = 40
