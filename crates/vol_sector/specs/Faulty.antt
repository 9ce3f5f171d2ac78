-- What callers see of a `FaultyDevice` (`docs/VOLUME.md`, "The device"). `left_of` goes down by one with each
-- operation, to 0. Where it is at the type's `FAILS_AT` the operation fails, and leaves the device inside as it was.
use Rattle.std.specs.Prelude.{ℕ, List, Bool}
use Rattle.vol_sector.specs.Disk.{Disk}
use Rattle.vol_sector.specs.Past.{LeavesPast}
use Rattle.vol_sector.specs.Counting.{counting}
use Rattle.vol_sector.specs.declared.faulty.FaultyDevice.{FaultyDevice}

-- the device that the operations are passed to
abbrev pub device_of : {D : Type 0} {N : ℕ} → FaultyDevice D N → D
device_of f = f.device

-- what the count of operations is down to
abbrev pub left_of : {D : Type 0} {N : ℕ} → FaultyDevice D N → ℕ
left_of f = f.count.left

-- how many operations were failed here
abbrev pub injected_failures : {D : Type 0} {N : ℕ} → FaultyDevice D N → ℕ
injected_failures f = f.count.failures

-- the operations tried, the newest first: was each passed to the device?
abbrev pub operations_of : {D : Type 0} {N : ℕ} → FaultyDevice D N → List Bool
operations_of f = f.count.operations.outcomes

-- the device's disk, where each operation tried counts
abbrev pub faulty_disk : {D : Type 0} {N : ℕ} → (D → Disk) → FaultyDevice D N → Disk
faulty_disk disk f = counting (operations_of f) (disk (device_of f))

-- The device inside goes on, and the sectors past the end are as they were, where it keeps its model.
pub record GoesOn {D : Type 0} {N : ℕ} (is_honest : D → Type 0) (disk : D → Disk) (inside : ℕ → D → D → Type 0) (end : ℕ) (first later : FaultyDevice D N) : Type 0 where
  pub device : inside end (device_of first) (device_of later)
  pub honest : is_honest (device_of first) → is_honest (device_of later)
  pub past : is_honest (device_of first) → LeavesPast end (faulty_disk disk first) (faulty_disk disk later)
