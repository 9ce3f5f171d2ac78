-- What the steps of a survey push, and when they are refused. In `src/surveying.rt` each step from
-- `survey_indirect_block` to `survey_sectors` has the one clause `Surveys`, with the numbers that it goes over and the
-- rule (`NonePast`) that it checks.
use Rattle.std.specs.Prelude.{◌≡◌, ◌≢◌, ◌⊎◌, ◌/◌, ◌%◌, ◌≤◌, ◌<◌, ◌+◌, ◌-◌, ◌*◌, ℕ, List, ◌++◌, ◌∷◌, map, slice_index, Result, OnOk, IfErr}
use Rattle.std.specs.List.{range_with_len, flat_map}
use Rattle.vol_sector.specs.Disk.{Image}
use Rattle.vol_sector.specs.Fault.{IsDamage, device_failed}
use Rattle.vol_sector.specs.declared.device.Device.{Ghosts}
use Rattle.vol_sector.specs.declared.fault.VolumeFault.{VolumeFault}
use Rattle.vol_sector.specs.declared.fault.VolumeFault.TheVariants as faults
use Rattle.vol_log.specs.Log.{device_of, has_failed}
use Rattle.vol_log.specs.Reading.{OnlyReads}
use Rattle.vol_log.specs.declared.log.Log.{Log}
use Rattle.vol_inode.specs.declared.entry.Entry.{Entry}
use Rattle.vol_inode.specs.Space.{blocks_for_size, inner_blocks_for, double_blocks_for}
use Rattle.vol_inode.specs.declared.pointers.TheConstants.{LISTED, TWICE_LISTED, NUMBERS, SERVED}
use Rattle.vol_body.specs.Body.{BlockPosition, data_block, IsPosition, first_served, named, number_in, block_bytes}
use Rattle.vol_body.specs.Survey.{nonzero, AreInside}

-- the numbers that a pointer sector lists
unfoldable pub listed : Image → ℕ → List ℕ
listed content n = map (number_in content n) (range_with_len 0 NUMBERS)

-- the number of a pointer sector, and those that it lists
abbrev pub with_listed : Image → ℕ → List ℕ
with_listed content n = n ∷ listed content n

-- these, each with those that it lists
abbrev pub all_listed : Image → List ℕ → List ℕ
all_listed content numbers = flat_map (with_listed content) numbers

-- the number of a double-indirect block, and those of its inner blocks, each with those that it lists
abbrev pub with_all_listed : Image → ℕ → List ℕ
with_all_listed content n = n ∷ all_listed content (listed content n)

-- these, each with all that it names
abbrev pub all_with_all_listed : Image → List ℕ → List ℕ
all_with_all_listed content numbers = flat_map (with_all_listed content) numbers

-- the numbers of sectors among these were pushed, and all are inside the range
pub record Pushes (first end : ℕ) (old new numbers : List ℕ) : Type 0 where
  pub named : new ≡ old ++ nonzero numbers
  pub inside : AreInside first end new

-- with these numbers not all would be inside the range
abbrev pub Overflows : ℕ → ℕ → List ℕ → List ℕ → Type 0
Overflows first end old numbers = AreInside first end (old ++ nonzero numbers) → ⊥

-- A step of a survey pushes these numbers but for zeros, and finds that no number stands past the file's size. It is refused as
-- damaged only where one does, or where not all would be inside the range or as few as it has sectors. On any device what is pushed
-- is inside; the rest is of one that keeps its model.
pub record Surveys {D : Type 0} {g : Ghosts D} (first end : ℕ) (old new : Log D g) (before after numbers : List ℕ) (NonePast : Type 0) (result : Result (Unit {0}) VolumeFault) : Type 0 where
  pub pushes : g.honest (device_of old) → OnOk result (Pushes first end before after numbers)
  pub past : g.honest (device_of old) → OnOk result NonePast
  pub inside : OnOk result (AreInside first end after)
  pub damaged : g.honest (device_of old) → IfErr result (λ fault. IsDamage fault → NonePast → Overflows first end before numbers)
  pub refused : IfErr result (λ fault. IsDamage fault ⊎ ((fault ≡ faults.Device) ⊎ (fault ≡ faults.Memory)))
  pub reads : OnlyReads old new
  pub failed : has_failed new ≡ device_failed result

-- a pointer sector lists none from one position on
abbrev pub ListsNoneFrom : Image → ℕ → ℕ → Type 0
ListsNoneFrom content n from = (i : ℕ) → from ≤ i → i < NUMBERS → number_in content n i ≡ 0

-- the same of these inner blocks, which stand for data blocks from one on
abbrev pub LaterListNone : Image → List ℕ → ℕ → ℕ → Type 0
LaterListNone content numbers start count = (i : ℕ) → i < NUMBERS → ListsNoneFrom content (slice_index numbers i) (count - (start + NUMBERS * i))

-- A double-indirect block, for data blocks from `start` on, names no inner block for data blocks from a number on, and these list
-- none.
pub record LaterNone (content : Image) (double_indirect_block start count : ℕ) : Type 0 where
  pub own : ListsNoneFrom content double_indirect_block (inner_blocks_for (count - start))
  pub later : LaterListNone content (listed content double_indirect_block) start count

-- the same of these double-indirect blocks
abbrev pub DoublesNone : Image → List ℕ → ℕ → Type 0
DoublesNone content numbers count = (m : ℕ) → m < NUMBERS → LaterNone content (slice_index numbers m) (TWICE_LISTED + SERVED * m) count

-- and of the triple-indirect block, which names these
pub record TripleNone (content : Image) (triple_indirect_block count : ℕ) : Type 0 where
  pub own : ListsNoneFrom content triple_indirect_block (double_blocks_for (count - TWICE_LISTED))
  pub doubles : DoublesNone content (listed content triple_indirect_block) count

-- a position that serves only data blocks at or past the size names no sector
abbrev pub NamesNonePast : Image → Entry → Type 0
NamesNonePast content e = (p : BlockPosition) → IsPosition p → blocks_for_size e.size ≤ first_served p → named content e p ≡ 0

-- what the file names is before the end
abbrev pub NamesBelow : Image → Entry → ℕ → Type 0
NamesBelow content e end = (p : BlockPosition) → IsPosition p → named content e p ≢ 0 → named content e p < end

-- the bytes past the size are zeros in the data block that the size ends in
abbrev pub EndsInZeros : Image → Entry → Type 0
EndsInZeros content e = (k : ℕ) → e.size % 512 ≢ 0 → e.size % 512 ≤ k → k < 512 → slice_index (block_bytes content (named content e (data_block (e.size / 512)))) k ≡ 0
