-- Both kinds of instances that a handle can have, and of modules for them: of the one all input is there at the opening (`plugin_session`),
-- and of the other it may go on (`fed_session`).
use Rattle.std.specs.Prelude.{ℕ, Bool, false, List}
use Rattle.std.specs.Borrow.{Bor}
use Rattle.wasm_interp.specs.Machine.{Snapshot}
use Rattle.wasm_interp.specs.Shared.{Ready}
use Rattle.plugin_core.specs.declared.stage.Stage.{Stage}
use Rattle.plugin_session.specs.Instance.{InstanceState}
use Rattle.fed_session.specs.Feeding.{Around, FedState}
use Rattle.sandbox_device.specs.declared.recorded_device.RecordedDevice.{RecordedDevice}
use Rattle.sandbox_device.specs.contracts.recorded_device.RecordedDeviceDevice.TheImpl.{ghosts}
use Rattle.sandbox_host.specs.declared.instance.HostInstance.{HostInstance}
use Rattle.sandbox_host.specs.declared.instance.HostInstance.TheVariants as instances
use Rattle.sandbox_host.specs.declared.host_plugin.HostPlugin.{HostPlugin}
use Rattle.sandbox_host.specs.declared.host_plugin.HostPlugin.TheVariants as plugins
use Rattle.sandbox_host.specs.HostTypes.{Bytes, HostVolume, items_written, took, took_none}

-- what callers see of an instance whose input is there, of one whose input may go on, and of either
abbrev pub PlainLiving : Type 0
PlainLiving = InstanceState RecordedDevice (Bor (List ℕ)) Bytes Bytes

abbrev pub FedLiving : Type 0
FedLiving = FedState RecordedDevice Bytes Bytes

abbrev pub Living : Type 0
Living = HostInstance

-- what is known of the device and of the writers of one whose input may go on
abbrev pub fed_known : Around RecordedDevice Bytes Bytes
fed_known = record {
  device = ghosts;
  out = record { contents = items_written };
  err = record { contents = items_written };
  out_calls = record { moved = took; refused = took_none };
  err_calls = record { moved = took; refused = took_none };
}

-- ---- what both have

abbrev pub machine_at : Living → Snapshot
machine_at (instances.Plain s) = s.machine
machine_at (instances.Fed s) = s.instance.machine

abbrev pub stage_at : Living → Stage
stage_at (instances.Plain s) = s.stage
stage_at (instances.Fed s) = s.instance.stage

abbrev pub volume_at : Living → HostVolume
volume_at (instances.Plain s) = s.host.volume
volume_at (instances.Fed s) = s.instance.host.volume

abbrev pub device_at : Living → RecordedDevice
device_at s = (volume_at s).device

abbrev pub out_at : Living → Bytes
out_at (instances.Plain s) = s.host.out.writer
out_at (instances.Fed s) = s.instance.host.out.writer

abbrev pub err_at : Living → Bytes
err_at (instances.Plain s) = s.host.err.writer
err_at (instances.Fed s) = s.instance.host.err.writer

abbrev pub used_at : Living → ℕ
used_at s = (machine_at s).used

-- ---- of modules

abbrev pub ready_at : HostPlugin → Ready
ready_at (plugins.Plain ready) = ready
ready_at (plugins.Fed fed) = fed.ready

-- whether the input of their instances may go on
abbrev pub goes_on_at : HostPlugin → Bool
goes_on_at (plugins.Plain ready) = false
goes_on_at (plugins.Fed fed) = fed.goes_on
