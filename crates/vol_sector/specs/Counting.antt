-- A disk that counts each operation tried, over one that not all of them reach (`docs/VOLUME.md`, "The device"): a
-- `MemoryDevice`'s reads don't, nor does what a `FaultyDevice` itself fails. These operations count as the others do.
use Rattle.std.specs.Prelude.{ℕ, ◌-◌, List, Bool, length, take, count_by}
use Rattle.vol_sector.specs.Disk.{Disk}

-- of the operations tried since a moment, the newest first, how many passed to the disk below
abbrev pub passed_since : List Bool → ℕ → ℕ
passed_since operations t = count_by (λ passed. passed) (take (length operations - t) operations)

-- the disk below with each operation counted, also those that didn't pass to it
abbrev pub counting : List Bool → Disk → Disk
counting operations below = record {
  seen = below.seen;
  may_leave = below.may_leave;
  operation_count = length operations;
  left_since = λ t. below.left_since (below.operation_count - passed_since operations t);
}
