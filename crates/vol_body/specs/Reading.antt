-- What stays of a log that sectors are read from and then staged in (`docs/VOLUME.md`, "Log"). By `StagesAtMost` a
-- write or a new size takes at most `most` places of the log, and the log has failed exactly where the call is refused.
use Rattle.std.specs.Prelude.{◌≡◌, ◌↔◌, ◌≤◌, ◌+◌, ℕ, Bool, false}
use Rattle.vol_sector.specs.Disk.{Leaves, counted}
use Rattle.vol_sector.specs.Past.{StillGoesOn}
use Rattle.vol_sector.specs.declared.device.Device.{Ghosts}
use Rattle.vol_log.specs.Log.{device_of, log_sectors, room_of, has_failed}
use Rattle.vol_log.specs.declared.log.Log.{Log}
use Rattle.vol_alloc.specs.Alloc.{first_of, end_of}
use Rattle.vol_alloc.specs.declared.sectors.Alloc.{Alloc}

-- Sectors are read, and then others are staged: a crash leaves nothing new. At most one operation fails, and the log then.
pub record OnlyStages {D : Type 0} {g : Ghosts D} (old new : Log D g) : Type 0 where
  pub seen : g.honest (device_of old) → (g.disk (device_of new)).seen ≡ (g.disk (device_of old)).seen
  pub crash : g.honest (device_of old) → Leaves (g.disk (device_of old)) (g.disk (device_of new)) (λ c. ⊥)
  pub sectors : log_sectors new ≡ log_sectors old
  pub honest : g.honest (device_of old) ↔ g.honest (device_of new)
  pub size : g.size (device_of new) ≡ g.size (device_of old)
  pub goes_on : (end : ℕ) → StillGoesOn (g.goes_on end) (device_of old) (device_of new)
  pub failures : has_failed old ≡ false → g.failures (device_of new) ≡ counted (has_failed new) (g.failures (device_of old))

-- A change of a file stages this many sectors at most. The log has failed where the change is refused, and only there.
pub record StagesAtMost {D : Type 0} {g : Ghosts D} (most : ℕ) (old new : Log D g) (a b : Alloc) (refused : Bool) : Type 0 where
  pub room : room_of old ≤ room_of new + most
  pub log : OnlyStages old new
  pub failed : has_failed new ≡ refused
  pub range : (first_of b ≡ first_of a) × (end_of b ≡ end_of a)
