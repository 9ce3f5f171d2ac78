-- What was done to a session's volume, as a host is told of it (`include/sandbox.h`). The call `operation_at` answers
-- from the device as it is at that time, so what a running session has not committed is not told yet.
use Rattle.std.specs.Prelude.{ℕ, Option, Some, None, slice_get, if◌then◌else◌}
use Rattle.vol_sector.specs.declared.record.Operation.{Operation}
use Rattle.vol_sector.specs.declared.record.Operation.TheVariants.{Write, Sync}
use Rattle.sandbox_device.specs.declared.recorded_device.RecordedDevice.{RecordedDevice}
use Rattle.sandbox_device.specs.Followed.{done_on}
use Rattle.sandbox_host.specs.declared.recording.VolumeOperation.{VolumeOperation}
use Rattle.sandbox_host.specs.declared.held.HandleContent.{HandleContent}
use Rattle.sandbox_host.specs.declared.held.HandleContent.TheVariants.{Loaded, Running, Finished, Plugin, Instance, SessionLeft, Nothing}
pub use Rattle.sandbox_host.specs.KeptRecords.{KeepsRecord}
use Rattle.sandbox_host.specs.Kinds.{device_at}
use Rattle.sandbox_host.specs.Sessions.{state_of}

-- the write or sync with this number, in the order in which they were done
abbrev pub operation_of : RecordedDevice → ℕ → Option Operation
operation_of d number = slice_get (done_on d) number

-- an operation, or none, told over what stood there
abbrev pub told_operation : Option Operation → VolumeOperation → VolumeOperation
told_operation None before = record before { kind = 0 }
told_operation (Some (Write sector bytes)) before = record { kind = 1; sector = sector; bytes = bytes }
told_operation (Some Sync) before = record before { kind = 2 }

-- the device, where its operations are recorded
abbrev pub recorded_on : RecordedDevice → Option RecordedDevice
recorded_on d = if d.is_recorded then Some d else None

-- that of a session or an instance as it is: while it runs, what isn't committed isn't on it yet
abbrev pub recorded_in : HandleContent → Option RecordedDevice
recorded_in (Loaded m bytes) = None
recorded_in (Running r) = recorded_on (state_of r.session).host.volume.device
recorded_in (Finished e) = recorded_on e.device
recorded_in (Plugin p bytes) = None
recorded_in (Instance l) = recorded_on (device_at l.instance)
recorded_in (SessionLeft e) = recorded_on e.device
recorded_in Nothing = None

abbrev pub recorded : Option HandleContent → Option RecordedDevice
recorded None = None
recorded (Some held) = recorded_in held
