-- Sessions as a host in C has them: over a device in memory, with input from bytes, and with output that is kept as bytes.
use Rattle.std.specs.Prelude.{◌≡◌, ◌++◌, ℕ, List, Option, Some}
use Rattle.std.specs.Borrow.{Bor}
use Rattle.vol_sector.specs.Disk.{Disk}
use Rattle.vol_tree.specs.Opened.{Opened}
use Rattle.wasi_calls.specs.declared.host.wasi_host.HostParts.{HostParts}
use Rattle.wasi_bodies.specs.host.Worlds.{hearing}
use Rattle.sandbox_device.specs.declared.recorded_device.RecordedDevice.{RecordedDevice}
use Rattle.sandbox_device.specs.contracts.recorded_device.RecordedDeviceDevice.TheImpl.{ghosts}
use Rattle.sandbox_host.specs.declared.kept.KeptOutput.{KeptOutput}
use Rattle.sandbox_core.specs.Devices.{Devices}
use Rattle.sandbox_core.specs.Sessions.{SessionState}

-- what is known of a device in memory: it always keeps its model
abbrev pub IsHonest : RecordedDevice → Type 0
IsHonest = ghosts.honest

abbrev pub disk_of : RecordedDevice → Disk
disk_of = ghosts.disk

abbrev pub size_of : RecordedDevice → ℕ
size_of = ghosts.size

abbrev pub failures_of : RecordedDevice → ℕ
failures_of = ghosts.failures

abbrev pub Bytes : Type 0
Bytes = KeptOutput

abbrev pub remaining : Bor (List ℕ) → Option (List ℕ)
remaining input = Some input.now

abbrev pub items_written : Bytes → Option (List ℕ)
items_written kept = Some kept.bytes.items

-- The input gives its bytes, and refuses nothing. Bytes are kept behind those that are there, or none where that is refused.
abbrev pub gave : Bor (List ℕ) → List ℕ → Bor (List ℕ) → Type 0
gave before bytes after = before.now ≡ bytes ++ after.now

abbrev pub took : Bytes → List ℕ → Bytes → Type 0
took before bytes after = after.bytes.items ≡ before.bytes.items ++ bytes

abbrev pub took_none : Bytes → Bytes → Type 0
took_none before after = after.bytes.items ≡ before.bytes.items

-- what is known of all of them
abbrev pub known : Devices RecordedDevice (Bor (List ℕ)) Bytes Bytes
known = record {
  device = ghosts;
  input = record { remaining = remaining };
  out = record { contents = items_written };
  err = record { contents = items_written };
  ear = hearing gave (λ before after. ⊥) took took_none took took_none;
}

-- a session, its volume, and what it is made of
abbrev pub State : Type 0
State = SessionState RecordedDevice (Bor (List ℕ)) Bytes Bytes

abbrev pub HostVolume : Type 0
HostVolume = Opened RecordedDevice

abbrev pub HandleParts : Type 0
HandleParts = HostParts RecordedDevice (Bor (List ℕ)) Bytes Bytes
