-- What is staged in a slot, from what was staged in its sector.
use Rattle.std.proofs.Common.{◌≡◌, ◌∙◌, ◌-◌, ◌==◌, ℕ, List, true, false, if◌then◌else◌, ap, subst}
use Rattle.vol_sector.specs.Disk.{put}
use Rattle.vol_sector.specs.declared.device.Device.{Ghosts}
use Rattle.vol_log.specs.Log as log
use Rattle.vol_log.specs.declared.log.Log.{Log}
use Rattle.vol_dirs.specs.Slots.{slot_sector, StagesSlot}

pub stages_slot : {D : Type 0} {g : Ghosts D} (serial at : ℕ) (bytes : List ℕ) (old new : Log D g) → at ≡ slot_sector serial → log.view new ≡ put at bytes (log.view old)
    → log.room_of new ≡ (if log.is_staged old at then log.room_of old else log.room_of old - 1)
    → ((k : ℕ) → log.is_staged new k ≡ (if k == at then true else log.is_staged old k))
    → log.device_of new ≡ log.device_of old → log.has_failed new ≡ false → log.log_sectors new ≡ log.log_sectors old → StagesSlot serial bytes old new
stages_slot serial at bytes old new same put_there room staged device failed sectors = record {
  view = put_there ∙ ap (λ (k : ℕ). put k bytes (log.view old)) same;
  room = subst (λ (k : ℕ). log.room_of new ≡ (if log.is_staged old k then log.room_of old else log.room_of old - 1)) same room;
  staged = λ k. staged k ∙ ap (λ (n : ℕ). if k == n then true else log.is_staged old k) same;
  device = device;
  failed = failed;
  sectors = sectors;
}
