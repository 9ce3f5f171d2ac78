-- A file as its entry and a volume's sectors give it: the sector at each position, the bytes, and the rules on both
-- (`docs/VOLUME.md`, "File"). A `BlockPosition` is a data block or a pointer sector, and `named` follows the pointers
-- to its sector; 0 stands for none.
use Rattle.std.specs.Prelude.{◌≡◌, ◌≢◌, ◌≤◌, ◌<◌, ◌+◌, ◌-◌, ◌*◌, ◌/◌, ◌%◌, ◌==◌, ℕ, zero, suc, Bool, true, List, [], ◌++◌, ◌∷◌, map, drop, replicate, nat_lt, slice_index, if◌then◌else◌}
use Rattle.std.specs.List.{range_with_len}
use Rattle.byteorder.specs.Endian.{little_number}
use Rattle.vol_sector.specs.Disk.{Image}
use Rattle.vol_inode.specs.declared.entry.Entry.{Entry}
use Rattle.vol_inode.specs.Space.{blocks_for_size, inner_blocks_for, double_blocks_for}
use Rattle.vol_inode.specs.declared.pointers.TheConstants.{DIRECT, INDIRECT, DOUBLE_INDIRECT, TRIPLE_INDIRECT, LISTED, TWICE_LISTED, SERVED, MOST_BLOCKS, INNER_BLOCKS, DOUBLE_INDIRECT_BLOCKS, NUMBERS}
use Rattle.vol_inode.specs.declared.version.TheConstants.{LARGEST_SIZE}

-- Where a file names a sector: for the j-th data block, 512 of its bytes; for the indirect block, which names the data blocks
-- after the direct ones; for the i-th of the inner blocks, which name all others; for the d-th of the double-indirect blocks, which
-- name the inner blocks; for the triple-indirect block, which names the double-indirect blocks after the first.
pub data BlockPosition : Type 0 where
  data_block : ℕ → BlockPosition
  indirect_block : BlockPosition
  inner_block : ℕ → BlockPosition
  double_indirect_block : ℕ → BlockPosition
  triple_indirect_block : BlockPosition

-- a file has so many of each at most
abbrev pub IsPosition : BlockPosition → Type 0
IsPosition (data_block j) = j < MOST_BLOCKS
IsPosition indirect_block = Unit {0}
IsPosition (inner_block i) = i < INNER_BLOCKS
IsPosition (double_indirect_block d) = d < DOUBLE_INDIRECT_BLOCKS
IsPosition triple_indirect_block = Unit {0}

-- the first data block of the file that the position serves
abbrev pub first_served : BlockPosition → ℕ
first_served (data_block j) = j
first_served indirect_block = DIRECT
first_served (inner_block i) = LISTED + NUMBERS * i
first_served (double_indirect_block d) = LISTED + SERVED * d
first_served triple_indirect_block = TWICE_LISTED

-- the i-th number in a sector; sector 0 stands for none
abbrev pub number_in : Image → ℕ → ℕ → ℕ
number_in content n i = if n == 0 then 0 else little_number 4 (drop (4 * i) (content n))

-- The sector of the d-th double-indirect block, or 0: the entry names the first, and the triple-indirect block the others.
abbrev pub double_indirect_number : Image → Entry → ℕ → ℕ
double_indirect_number content e zero = slice_index e.pointers DOUBLE_INDIRECT
double_indirect_number content e (suc m) = number_in content (slice_index e.pointers TRIPLE_INDIRECT) m

-- the sector of the i-th inner block, or 0
abbrev pub inner_number : Image → Entry → ℕ → ℕ
inner_number content e i = number_in content (double_indirect_number content e (i / NUMBERS)) (i % NUMBERS)

-- the sector that the file names at this position, or 0
abbrev pub named : Image → Entry → BlockPosition → ℕ
named content e indirect_block = slice_index e.pointers INDIRECT
named content e triple_indirect_block = slice_index e.pointers TRIPLE_INDIRECT
named content e (double_indirect_block d) = double_indirect_number content e d
named content e (inner_block i) = inner_number content e i
named content e (data_block j) = if nat_lt j DIRECT then slice_index e.pointers j else (if nat_lt j LISTED then number_in content (slice_index e.pointers INDIRECT) (j - DIRECT)
    else number_in content (inner_number content e ((j - LISTED) / NUMBERS)) ((j - LISTED) % NUMBERS))

-- the bytes of a sector; a data block that names none was never written, and reads as zeros
abbrev pub block_bytes : Image → ℕ → List ℕ
block_bytes content n = if n == 0 then replicate 512 0 else content n

-- the byte at a position of the file
abbrev pub byte_at : Image → Entry → ℕ → ℕ
byte_at content e k = slice_index (block_bytes content (named content e (data_block (k / 512)))) (k % 512)

-- the bytes of the file
abbrev pub bytes_of : Image → Entry → List ℕ
bytes_of content e = map (byte_at content e) (range_with_len 0 e.size)

-- each sector that the file names is taken
abbrev pub NamesTaken : (ℕ → Bool) → Image → Entry → Type 0
NamesTaken taken content e = (p : BlockPosition) → IsPosition p → named content e p ≢ 0 → taken (named content e p) ≡ true

-- the file names no sector of this number
abbrev pub NamesOthers : Image → Entry → ℕ → Type 0
NamesOthers content e n = (p : BlockPosition) → IsPosition p → named content e p ≢ n

-- each sector that the file names has the same bytes in both
abbrev pub SameSectors : Image → Image → Entry → Type 0
SameSectors one other e = (p : BlockPosition) → IsPosition p → named one e p ≢ 0 → other (named one e p) ≡ one (named one e p)

-- the file names the same sectors in both, and has the same bytes
pub record IsSameFile (one other : Image) (e : Entry) : Type 0 where
  pub names : (p : BlockPosition) → IsPosition p → named other e p ≡ named one e p
  pub bytes : (k : ℕ) → k < LARGEST_SIZE → byte_at other e k ≡ byte_at one e k

-- The rules on a file's sectors: no two positions name the same one; a position that serves only data blocks at or past the size
-- names none; bytes past the size are zeros.
pub record IsBody (content : Image) (e : Entry) : Type 0 where
  pub distinct : (p q : BlockPosition) → IsPosition p → IsPosition q → named content e p ≢ 0 → named content e p ≡ named content e q → p ≡ q
  pub past : (p : BlockPosition) → IsPosition p → blocks_for_size e.size ≤ first_served p → named content e p ≡ 0
  pub zeros : (k : ℕ) → e.size ≤ k → k < LARGEST_SIZE → byte_at content e k ≡ 0

-- the positions of a file of this size, as many as it needs sectors
abbrev pub positions_of : ℕ → List BlockPosition
positions_of size = let count = blocks_for_size size in
    map data_block (range_with_len 0 count)
    ++ (if nat_lt DIRECT count then indirect_block ∷ [] else [])
    ++ map inner_block (range_with_len 0 (inner_blocks_for (count - LISTED)))
    ++ map double_indirect_block (range_with_len 0 (double_blocks_for (count - LISTED)))
    ++ (if nat_lt TWICE_LISTED count then triple_indirect_block ∷ [] else [])
