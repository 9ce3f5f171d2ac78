-- The host of a run: what it is made of, with streams that are counted, and what is known of its device and of these streams. So what is
-- said of sessions over any device and streams is said of a run by `counted_devices`.
use Rattle.std.specs.Prelude.{◌-◌, ◌^◌, ℕ, List, false, Option, Result, Ok, Err, unwrap_or}
use Rattle.vol_sector.specs.Disk.{Disk}
use Rattle.vol_sector.specs.declared.device.Device.{Ghosts}
use Rattle.vol_sector.specs.declared.fault.Refused.{Refused}
use Rattle.vol_tree.specs.Opened.{Opened}
use Rattle.wasm_steps.specs.Steps.{CallsOf}
use Rattle.wasi_calls.specs.declared.host.wasi_host.HostParts.{HostParts}
use Rattle.wasi_bodies.specs.host.Worlds.{HostState, Hearing, hearing}
use Rattle.sandbox_core.specs.Devices.{Devices, Calls}
use Rattle.sandbox_args.specs.declared.request.Run.{Run}
use Rattle.sandbox_report.specs.declared.counted.Counted.{Counted}
use Rattle.sandbox_report.specs.Counting.{counted_moved, counted_refused, counted_refused_or_full}

-- the bytes of a stream that is counted
abbrev pub counted_bytes : {S : Type 0} → (S → Option (List ℕ)) → Counted S → Option (List ℕ)
counted_bytes bytes c = bytes c.stream

-- a stream that is counted from here on, and takes so many bytes at most
abbrev pub from_here : {S : Type 0} → ℕ → S → Counted S
from_here most s = record { stream = s; count = 0; most = most; full = false; failed = false }

-- how many bytes each output of a run takes at most; without its option as many as can be counted
abbrev pub output_of : Run → ℕ
output_of run = unwrap_or run.limits.output (2 ^ 64 - 1)

-- what a host is made of, with streams that are counted from here on
abbrev pub counting : {D R W1 W2 : Type 0} → Run → HostParts D R W1 W2 → HostParts D (Counted R) (Counted W1) (Counted W2)
counting run parts = record {
  settings = parts.settings;
  volume = parts.volume;
  input = from_here (2 ^ 64 - 1) parts.input;
  out = from_here (output_of run) parts.out;
  err = from_here (output_of run) parts.err;
}

-- the device of a volume that is handed back, or the device itself
abbrev pub returned_device : {D : Type 0} → Result (Opened D) (Refused D) → D
returned_device (Ok v) = v.device
returned_device (Err refused) = refused.device

-- what is known of a device, as one record
abbrev pub known_of : {D : Type 0} → (D → Type 0) → (D → Disk) → (D → ℕ) → (D → ℕ) → (ℕ → D → D → Type 0) → Ghosts D
known_of is_honest disk sectors_on failures goes_on =
    record { honest = is_honest; disk = disk; size = sectors_on; failures = failures; goes_on = goes_on }

-- what is told of the calls on streams that are counted
abbrev pub counted_hearing : {R W1 W2 : Type 0} → Hearing R W1 W2 → Hearing (Counted R) (Counted W1) (Counted W2)
counted_hearing ear = hearing (counted_moved ear.input.moved) (counted_refused ear.input.refused)
    (counted_moved ear.out.moved) (counted_refused_or_full ear.out.refused) (counted_moved ear.err.moved) (counted_refused_or_full ear.err.refused)

module _ {D R W1 W2 : Type 0} (is_honest : D → Type 0) (disk : D → Disk) (sectors_on failures : D → ℕ) (goes_on : ℕ → D → D → Type 0)
    (remaining : R → Option (List ℕ)) (out_contents : W1 → Option (List ℕ)) (err_contents : W2 → Option (List ℕ)) (ear : Hearing R W1 W2) where
  -- a host whose streams are counted
  abbrev pub Host : Type 0
  Host = HostState D (Counted R) (Counted W1) (Counted W2)

  -- and what is known of its device and of these streams
  abbrev pub counted_devices : Devices D (Counted R) (Counted W1) (Counted W2)
  counted_devices = record {
    device = known_of is_honest disk sectors_on failures goes_on;
    input = record { remaining = counted_bytes remaining };
    out = record { contents = counted_bytes out_contents };
    err = record { contents = counted_bytes err_contents };
    ear = counted_hearing ear;
  }

  abbrev pub HostCalls : CallsOf Host
  HostCalls = Calls counted_devices
