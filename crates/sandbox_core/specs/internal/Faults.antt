-- Why a session is refused, by why its host or its machine is. `of_host` and `of_instance` give the session's reason
-- for a refusal of its host or of its machine; memory that either lacks is the session's `Memory`.
use Rattle.wasi_calls.specs.declared.host.fault.HostFault.{HostFault}
use Rattle.wasi_calls.specs.declared.host.fault.HostFault.TheVariants as host
use Rattle.wasm_store.specs.declared.fault.InstanceFault.{InstanceFault}
use Rattle.wasm_store.specs.declared.fault.InstanceFault.TheVariants.{Memory as NoMemory}
use Rattle.sandbox_core.specs.declared.fault.SessionFault.{SessionFault}
use Rattle.sandbox_core.specs.declared.fault.SessionFault.TheVariants.{Setting, Instance, Device, Preopen, Memory}

abbrev pub of_host : HostFault → SessionFault
of_host host.Setting = Setting
of_host host.Preopen = Preopen
of_host host.Device = Device
of_host host.Memory = Memory

abbrev pub of_instance : InstanceFault → SessionFault
of_instance NoMemory = Memory
of_instance other = Instance other
