-- Questions on a `VolumeFault`, the cause of a refusal (`docs/VOLUME.md`, "What opening refuses"). `is_device` tells a
-- failed device, `IsDamage` a damaged volume, whichever rule it breaks; `at_sector` fills in the sector of a damage
-- where none is known yet.
use Rattle.std.specs.Prelude.{ℕ, Bool, true, false, Option, Some, None, Result, Ok, Err}
use Rattle.vol_sector.specs.declared.fault.VolumeFault.{VolumeFault}
use Rattle.vol_sector.specs.declared.fault.VolumeFault.TheVariants.{NotAVolume, Version, Damaged, Device, TooSmall, Upgraded, Geometry, Memory}

abbrev pub is_device : VolumeFault → Bool
is_device NotAVolume = false
is_device Version = false
is_device (Damaged damage) = false
is_device Device = true
is_device TooSmall = false
is_device Upgraded = false
is_device Geometry = false
is_device Memory = false

-- the device failed in this call
abbrev pub device_failed : {T : Type 0} → Result T VolumeFault → Bool
device_failed (Ok x) = false
device_failed (Err fault) = is_device fault

-- The volume breaks a rule of its format, whichever and wherever.
abbrev pub IsDamage : VolumeFault → Type 0
IsDamage NotAVolume = ⊥
IsDamage Version = ⊥
IsDamage (Damaged damage) = Unit {0}
IsDamage Device = ⊥
IsDamage TooSmall = ⊥
IsDamage Upgraded = ⊥
IsDamage Geometry = ⊥
IsDamage Memory = ⊥

-- the sector that is known, or this one
abbrev pub sector_or : Option ℕ → ℕ → ℕ
sector_or None n = n
sector_or (Some known) n = known

-- a refusal, of which the sector is this one if it is a damage and no sector is known
abbrev pub at_sector : VolumeFault → ℕ → VolumeFault
at_sector NotAVolume n = NotAVolume
at_sector Version n = Version
at_sector (Damaged damage) n = Damaged (record damage { sector = Some (sector_or damage.sector n) })
at_sector Device n = Device
at_sector TooSmall n = TooSmall
at_sector Upgraded n = Upgraded
at_sector Geometry n = Geometry
at_sector Memory n = Memory
