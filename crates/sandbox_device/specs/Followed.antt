-- What the record of a device is good for: a disk on which its writes and syncs are done in order follows the device.
-- The law `record_is_followed` says `IsFollowed` of every `RecordedDevice`, and `sandbox_host` builds on it for hosts
-- that keep a disk of their own.
use Rattle.std.specs.Prelude.{◌≡◌, ◌≤◌, ◌++◌, ℕ, List, length, take}
use Rattle.vol_sector.specs.Disk.{Image, Disk}
use Rattle.vol_sector.specs.Past.{LeavesPast}
use Rattle.vol_sector.specs.Record.{newest, LeftBy, image_of}
use Rattle.vol_sector.specs.declared.record.Operation.{Operation}
use Rattle.sandbox_device.specs.declared.recorded_device.RecordedDevice.{RecordedDevice}
use Rattle.sandbox_device.specs.Recorded.{written_by}

-- the sectors that it began with, and the writes and syncs that were done, in order
abbrev pub initial_image : RecordedDevice → Image
initial_image d = image_of d.history.first

abbrev pub done_on : RecordedDevice → List Operation
done_on d = d.history.done

abbrev pub followed_disk : RecordedDevice → Disk
followed_disk d = written_by d.sectors d.history.first d.history.done d.history.outcomes

-- A disk that begins with the same sectors, and on which the operations are done in order, has the device's sectors in the
-- end. A stop after any of them leaves nothing that a crash of the device couldn't have left.
pub record IsFollowed (d : RecordedDevice) : Type 0 where
  pub ends : (n : ℕ) → newest n (initial_image d n) (done_on d) ≡ image_of d.sectors n
  pub stops : (k : ℕ) (c : Image) → k ≤ length (done_on d) → LeftBy (initial_image d) (take k (done_on d)) c → (followed_disk d).left_since 0 c

-- It began with the same sectors, the operations of the first are the first of its own, it records what the first does, and the sectors
-- past the end are as they were.
pub record GoesOn (end : ℕ) (first later : RecordedDevice) : Type 0 where
  pub began : later.history.first ≡ first.history.first
  pub is_recorded : later.is_recorded ≡ first.is_recorded
  pub more : List Operation
  pub recorded : done_on later ≡ done_on first ++ more
  pub past : LeavesPast end (followed_disk first) (followed_disk later)
