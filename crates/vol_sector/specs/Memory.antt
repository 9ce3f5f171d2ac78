-- What callers see of a `MemoryDevice` (`docs/VOLUME.md`, "The device"). What a crash now may leave follows from the
-- device's first image and record of writes and syncs alone; reads and failed operations only raise counts.
use Rattle.std.specs.Prelude.{◌≡◌, ◌<◌, ◌++◌, ℕ, List, [], Bool, vec_len}
use Rattle.vol_sector.specs.Disk.{Image, Disk}
use Rattle.vol_sector.specs.Past.{LeavesPast}
use Rattle.vol_sector.specs.Counting.{counting}
use Rattle.vol_sector.specs.Record.{recorded}
use Rattle.vol_sector.specs.Record.{image_of}
use Rattle.vol_sector.specs.declared.memory.MemoryDevice.{MemoryDevice}
use Rattle.vol_sector.specs.declared.record.Operation.{Operation}

-- the sectors as the device began
abbrev pub initial_image : MemoryDevice → Image
initial_image m = image_of m.first.items

-- the writes and syncs that were done, in order
abbrev pub record_of : MemoryDevice → List Operation
record_of m = m.history.items

-- how many writes and syncs the record has room for
abbrev pub room_of : MemoryDevice → ℕ
room_of m = m.limit

abbrev pub sector_count : MemoryDevice → ℕ
sector_count m = vec_len m.current

abbrev pub failures_of : MemoryDevice → ℕ
failures_of m = m.failures

-- the operations tried, the newest first: was each recorded?
abbrev pub operations_of : MemoryDevice → List Bool
operations_of m = m.operations.outcomes

-- what its record allows, where each operation tried counts: a crash now may leave what is `LeftBy` the record
abbrev pub disk_of : MemoryDevice → Disk
disk_of m = counting (operations_of m) (recorded (initial_image m) (record_of m))

-- a device of this many sectors with this image, on which nothing was done
pub record IsUnused (m : MemoryDevice) (sectors room : ℕ) (image : Image) : Type 0 where
  pub sectors_is : sector_count m ≡ sectors
  pub room_is : room_of m ≡ room
  pub record_is : record_of m ≡ []
  pub operations_is : operations_of m ≡ []
  pub failures_is : failures_of m ≡ 0
  pub image_is : (n : ℕ) → n < sectors → initial_image m n ≡ image n

-- all as before, but for the count of operations tried
pub record IsUnchanged (old new : MemoryDevice) : Type 0 where
  pub first_is : initial_image new ≡ initial_image old
  pub record_is : record_of new ≡ record_of old
  pub room_is : room_of new ≡ room_of old
  pub sectors_is : sector_count new ≡ sector_count old
  pub failures_is : failures_of new ≡ failures_of old

-- It began with the same sectors, its record begins with that of the first, and the sectors past the end are as they were.
pub record GoesOn (end : ℕ) (first later : MemoryDevice) : Type 0 where
  pub began : initial_image later ≡ initial_image first
  pub more : List Operation
  pub recorded : record_of later ≡ record_of first ++ more
  pub past : LeavesPast end (disk_of first) (disk_of later)
