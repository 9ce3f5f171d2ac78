-- `OnlyReads`: what stays of a log that is only read (`docs/VOLUME.md`, "The device"). Contracts of `vol_dirs`,
-- `vol_body` and `vol_tree` cite it; its contents and crashes need an honest device, its failures a log that worked.
use Rattle.std.specs.Prelude.{◌≡◌, ◌↔◌, ℕ, false}
use Rattle.vol_sector.specs.Disk.{Leaves, counted}
use Rattle.vol_sector.specs.Past.{StillGoesOn}
use Rattle.vol_sector.specs.declared.device.Device.{Ghosts}
use Rattle.vol_log.specs.Log.{view, staged_of, device_of, log_sectors, has_failed}
use Rattle.vol_log.specs.declared.log.Log.{Log}

-- Its content and what is staged stay, and a crash leaves nothing new. At most one operation fails, and the log then.
pub record OnlyReads {D : Type 0} {g : Ghosts D} (old new : Log D g) : Type 0 where
  pub view : g.honest (device_of old) → view new ≡ view old
  pub staged : staged_of new ≡ staged_of old
  pub seen : g.honest (device_of old) → (g.disk (device_of new)).seen ≡ (g.disk (device_of old)).seen
  pub crash : g.honest (device_of old) → Leaves (g.disk (device_of old)) (g.disk (device_of new)) (λ c. ⊥)
  pub sectors : log_sectors new ≡ log_sectors old
  pub honest : g.honest (device_of old) ↔ g.honest (device_of new)
  pub size : g.size (device_of new) ≡ g.size (device_of old)
  pub goes_on : (end : ℕ) → StillGoesOn (g.goes_on end) (device_of old) (device_of new)
  pub failures : has_failed old ≡ false → g.failures (device_of new) ≡ counted (has_failed new) (g.failures (device_of old))
