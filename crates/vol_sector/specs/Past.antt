-- What becomes of the sectors that a device has past a bound (`docs/VOLUME.md`, "Sectors"). A device that goes on from an
-- earlier one, by `goes_on` of the trait `Device`, leaves those past its bound (`LeavesPast`), and so do all calls of a
-- volume those past its own.
use Rattle.std.specs.Prelude.{◌≡◌, ◌≤◌, ℕ}
use Rattle.vol_sector.specs.Disk.{Image, Disk, After, Leaves}

-- the sectors from this number on are the same
abbrev pub PastStays : ℕ → Image → Image → Type 0
PastStays end before after = (k : ℕ) → end ≤ k → after k ≡ before k

-- Reads give of the sectors from this number on what they gave; and each image that a crash may leave could be left
-- before, or has there what one has that could.
pub record LeavesPast (end : ℕ) (old new : Disk) : Type 0 where
  pub seen : PastStays end old.seen new.seen
  pub crash : Leaves old new (After (PastStays end) old.may_leave)

-- What goes on from the first device goes on from it one operation later, too: on any device, and whatever the first was.
abbrev pub StillGoesOn : {D : Type 0} → (D → D → Type 0) → D → D → Type 0
StillGoesOn {D} goes_on old new = (first : D) → goes_on first old → goes_on first new
