-- Which sector holds the slot of a serial, and what staging one slot leaves (`docs/VOLUME.md`, "Sectors"). `add`,
-- `remove` and `relocate` of `Dirs` require `CanStageSlot`, and promise `StagesSlot` for the slot of their serial.
use Rattle.std.specs.Prelude.{◌≡◌, ◌≤◌, ◌<◌, ◌+◌, ◌-◌, ◌==◌, ℕ, List, true, false, if◌then◌else◌}
use Rattle.vol_sector.specs.Disk.{put}
use Rattle.vol_sector.specs.declared.device.Device.{Ghosts}
use Rattle.vol_log.specs.Log.{view, device_of, log_sectors, room_of, is_staged, has_failed}
use Rattle.vol_log.specs.declared.layout.TheConstants.{FIRST_AFTER_LOG}
use Rattle.vol_log.specs.declared.log.Log.{Log}

-- The sector of the slot of the entry with this serial. Serials count from 1, and the slots are the first sectors after the log.
abbrev pub slot_sector : ℕ → ℕ
slot_sector serial = FIRST_AFTER_LOG - 1 + serial

-- A slot may be staged: the slots are on the disk, and the log has room for a sector and works.
pub record CanStageSlot {D : Type 0} {g : Ghosts D} (log : Log D g) (slots : ℕ) : Type 0 where
  pub there : FIRST_AFTER_LOG + slots ≤ log_sectors log
  pub room : 0 < room_of log
  pub working : has_failed log ≡ false

-- The slot is staged with these bytes, and nothing else is done. It takes a place of the log, unless it has one.
pub record StagesSlot {D : Type 0} {g : Ghosts D} (serial : ℕ) (bytes : List ℕ) (old new : Log D g) : Type 0 where
  pub view : view new ≡ put (slot_sector serial) bytes (view old)
  pub room : room_of new ≡ (if is_staged old (slot_sector serial) then room_of old else room_of old - 1)
  pub staged : (k : ℕ) → is_staged new k ≡ (if k == slot_sector serial then true else is_staged old k)
  pub device : device_of new ≡ device_of old
  pub failed : has_failed new ≡ false
  pub sectors : log_sectors new ≡ log_sectors old
