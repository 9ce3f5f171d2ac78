-- The sectors that a file names, in the order of a survey, and the rules that a survey checks: `AreInside` and
-- `IsTrimmed` (`docs/VOLUME.md`, "File"). Opening surveys every entry into one list of numbers; where no number stands
-- twice in it, `IsTrimmed` is all that is left of `IsBody` to check.
use Rattle.std.specs.Prelude.{◌≡◌, ◌≤◌, ◌<◌, ◌+◌, ◌-◌, ◌*◌, ◌==◌, ℕ, not, List, ◌++◌, ◌∷◌, length, map, filter}
use Rattle.std.specs.List.{range_with_len, flat_map, Contains}
use Rattle.vol_sector.specs.Disk.{Image}
use Rattle.vol_inode.specs.declared.entry.Entry.{Entry}
use Rattle.vol_inode.specs.Space.{blocks_for_size}
use Rattle.vol_body.specs.Body.{BlockPosition, data_block, indirect_block, inner_block, double_indirect_block, triple_indirect_block, IsPosition, first_served, named, byte_at}
use Rattle.vol_inode.specs.declared.pointers.TheConstants.{DIRECT, LISTED, NUMBERS}
use Rattle.vol_inode.specs.declared.version.TheConstants.{LARGEST_SIZE}

-- this many data blocks, from one on
unfoldable pub data_blocks_from : ℕ → ℕ → List BlockPosition
data_blocks_from first count = map data_block (range_with_len first count)

-- an inner block, and the data blocks that it lists
abbrev pub inner_positions : ℕ → List BlockPosition
inner_positions i = inner_block i ∷ data_blocks_from (LISTED + NUMBERS * i) NUMBERS

-- a double-indirect block, and the inner blocks that it names, each before the data blocks that it lists
unfoldable pub double_positions : ℕ → List BlockPosition
double_positions d = double_indirect_block d ∷ flat_map inner_positions (range_with_len (NUMBERS * d) NUMBERS)

-- the double-indirect blocks that the triple-indirect block names, each before all that it names
unfoldable pub later_double_positions : List BlockPosition
later_double_positions = flat_map double_positions (range_with_len 1 NUMBERS)

-- each position of a file, once
abbrev pub every_position : List BlockPosition
every_position = ((data_blocks_from 0 DIRECT ++ (indirect_block ∷ data_blocks_from DIRECT NUMBERS)) ++ double_positions 0) ++ (triple_indirect_block ∷ later_double_positions)

-- the numbers of sectors; 0 stands for none
abbrev pub nonzero : List ℕ → List ℕ
nonzero numbers = filter (λ n. not (n == 0)) numbers

-- the number of each sector that the file names
abbrev pub sectors_named : Image → Entry → List ℕ
sectors_named content e = nonzero (map (named content e) every_position)

-- numbers of the range, and no more than it has sectors
pub record AreInside (first end : ℕ) (numbers : List ℕ) : Type 0 where
  pub inside : (n : ℕ) → Contains numbers n → (first ≤ n) × (n < end)
  pub few : length numbers ≤ end - first

-- A position that serves only data blocks at or past the size names no sector; bytes past the size are zeros.
pub record IsTrimmed (content : Image) (e : Entry) : Type 0 where
  pub past : (p : BlockPosition) → IsPosition p → blocks_for_size e.size ≤ first_served p → named content e p ≡ 0
  pub zeros : (k : ℕ) → e.size ≤ k → k < LARGEST_SIZE → byte_at content e k ≡ 0
