-- What callers see of an open log (`docs/VOLUME.md`, "Log"). `view` is what the layers above read: the staged batch
-- over what reads of the device give, so a staged sector is read at once, before a commit puts it onto the disk.
use Rattle.std.specs.Prelude.{ℕ, ◌-◌, List, length, Bool}
use Rattle.vol_sector.specs.Disk.{Image}
use Rattle.vol_sector.specs.declared.device.Device.{Ghosts}
use Rattle.vol_log.specs.Batch.{over, holds}
use Rattle.vol_log.specs.declared.staged.Staged.{Staged}
use Rattle.vol_log.specs.declared.log.Log.{Log}

-- the sectors staged since the last commit that succeeded
abbrev pub staged_of : {D : Type 0} {g : Ghosts D} → Log D g → List Staged
staged_of log = log.batch.staged.items

-- the device as the operations left it
abbrev pub device_of : {D : Type 0} {g : Ghosts D} → Log D g → D
device_of log = log.device

-- the content as reads give it
abbrev pub view : {D : Type 0} {g : Ghosts D} → Log D g → Image
view {g = g} log = over (staged_of log) (g.disk log.device).seen

-- how many sectors the volume has
abbrev pub log_sectors : {D : Type 0} {g : Ghosts D} → Log D g → ℕ
log_sectors log = log.sectors

-- how many sectors may still be staged
abbrev pub room_of : {D : Type 0} {g : Ghosts D} → Log D g → ℕ
room_of log = 120 - length (staged_of log)

-- is this sector staged?
abbrev pub is_staged : {D : Type 0} {g : Ghosts D} → Log D g → ℕ → Bool
is_staged log n = holds (staged_of log) n

-- a device operation has failed since the log was opened
abbrev pub has_failed : {D : Type 0} {g : Ghosts D} → Log D g → Bool
has_failed log = log.failed
