-- What `finish` leaves of a session, and the number that it answers.
use Rattle.std.specs.Prelude.{◌≡◌, ℕ, Result, Ok, Err}
use Rattle.vol_sector.specs.declared.fault.Refused.{Refused}
use Rattle.wasm_syntax.specs.declared.module.Module.{Module}
use Rattle.sandbox_core.specs.Finishing as core
use Rattle.sandbox_device.specs.declared.recorded_device.RecordedDevice.{RecordedDevice}
use Rattle.sandbox_host.specs.declared.held.Ended.{Ended}
use Rattle.sandbox_host.specs.declared.modules.LoadedModule.{LoadedModule}
use Rattle.sandbox_host.specs.declared.modules.LoadedModule.TheVariants.{Plain, Prepared}
use Rattle.sandbox_host.specs.HostTypes.{HostVolume, State, known}

-- the module that is loaded
abbrev pub module_of : LoadedModule → Module
module_of (Plain m) = m
module_of (Prepared ready) = ready.valid

-- the device of what is handed back of a volume, and the number that is answered
abbrev pub returned_device : Result HostVolume (Refused RecordedDevice) → RecordedDevice
returned_device (Ok v) = v.device
returned_device (Err r) = r.device

abbrev pub commit_number : Result HostVolume (Refused RecordedDevice) → ℕ
commit_number (Ok v) = 0
commit_number (Err r) = 33

-- The session's calls are committed, and what it leaves is its module, the volume's device then, and what it has written.
pub record Finishes (s : State) (e : Ended) (number : ℕ) : Type 0 where
  pub volume : Result HostVolume (Refused RecordedDevice)
  pub commits : core.Commits known.device s.host.volume volume
  pub device : e.device ≡ returned_device volume
  pub number_told : number ≡ commit_number volume
  pub valid : module_of e.loaded ≡ s.machine.valid
  pub out : e.out ≡ s.host.out.writer
  pub err : e.err ≡ s.host.err.writer
