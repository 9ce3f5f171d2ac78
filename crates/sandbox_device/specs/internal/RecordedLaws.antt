-- What holds of a device whose writes and syncs are recorded. The laws carry those of `vol_sector` for records and
-- counts over to `written_by`, and `RecordedDevice` hands them to `Device`.
use Rattle.std.specs.Prelude.{◌≡◌, ◌≤◌, ℕ, List, [], ◌∷◌, Bool, length}
use Rattle.std.proofs.Common.{sym, subst}
use Rattle.vol_sector.specs.Disk.{Image}
use Rattle.vol_sector.specs.internal.CountingLaws.{counting_now, only_counting}
use Rattle.vol_sector.specs.Record.{newest, recorded, choices, Among, LeftBy, image_of}
use Rattle.vol_sector.specs.internal.RecordLaws.{stays_left, left_now, only_left}
use Rattle.vol_sector.specs.declared.record.Operation.{Operation}
use Rattle.sandbox_device.specs.Ram.{Sectors}
use Rattle.sandbox_device.specs.Recorded.{written_by}

module _ (now first : Sectors) (done : List Operation) (outcomes : List Bool) where
  pub now_is_since : (t : ℕ) (c : Image) → t ≤ length outcomes → LeftBy (image_of first) done c → (written_by now first done outcomes).left_since t c
  now_is_since t c le may = counting_now outcomes (recorded (image_of first) done) (left_now (image_of first) done) t c le may

  pub now_is_all : (c : Image) → (written_by now first done outcomes).left_since (length outcomes) c → LeftBy (image_of first) done c
  now_is_all c left = only_counting outcomes (recorded (image_of first) done) (only_left (image_of first) done) c left

  pub now_may_stay : ((n : ℕ) → image_of now n ≡ newest n (image_of first n) done) → LeftBy (image_of first) done (image_of now)
  now_may_stay agrees n = subst (Among (choices n (image_of first n) (image_of first n ∷ []) done)) (sym (agrees n)) (stays_left (image_of first) done n)
