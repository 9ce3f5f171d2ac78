-- Which sectors a file names: the rules on them (`IsNaming`, which is `IsBody` without the bytes past the size), and
-- what one more named sector changes. Each step of a write keeps `IsNaming`; proofs go from a pointer that is set or a
-- number that is listed to `NamesOneMore`, and from there to the rules.
use Rattle.std.specs.Prelude.{◌≡◌, ◌≢◌, ◌≤◌, ◌<◌, ◌*◌, ℕ, drop, slice_index}
use Rattle.byteorder.specs.Endian.{little_number}
use Rattle.vol_sector.specs.Disk.{Image}
use Rattle.vol_inode.specs.declared.entry.Entry.{Entry}
use Rattle.vol_inode.specs.Space.{blocks_for_size}
use Rattle.vol_inode.specs.declared.pointers.TheConstants.{MOST_BLOCKS, NUMBERS}
use Rattle.vol_body.specs.Body.{BlockPosition, data_block, IsPosition, first_served, named, block_bytes}

-- The rules on the sectors of a file: no two positions name the same one; a position that serves only data blocks at or past the size
-- names none.
pub record IsNaming (content : Image) (e : Entry) : Type 0 where
  pub distinct : (p q : BlockPosition) → IsPosition p → IsPosition q → named content e p ≢ 0 → named content e p ≡ named content e q → p ≡ q
  pub past : (p : BlockPosition) → IsPosition p → blocks_for_size e.size ≤ first_served p → named content e p ≡ 0

-- The file names one more sector, at this position. What it names at others stays, and so do the bytes of other data blocks.
pub record NamesOneMore (content after : Image) (e changed : Entry) (p : BlockPosition) (n : ℕ) : Type 0 where
  pub one : named after changed p ≡ n
  pub rest : (q : BlockPosition) → IsPosition q → (q ≡ p → ⊥) → named after changed q ≡ named content e q
  pub size : changed.size ≡ e.size
  pub bytes : (j : ℕ) → j < MOST_BLOCKS → (data_block j ≡ p → ⊥) → block_bytes after (named after changed (data_block j)) ≡ block_bytes content (named content e (data_block j))

-- one pointer of the entry is set
pub record SetsPointer (e changed : Entry) (s n : ℕ) : Type 0 where
  pub one : slice_index changed.pointers s ≡ n
  pub rest : (k : ℕ) → k < 61 → k ≢ s → slice_index changed.pointers k ≡ slice_index e.pointers k
  pub size : changed.size ≡ e.size

-- The i-th number of the pointer sector m becomes n. Other sectors stay but for the sector n.
pub record ListsOneMore (content after : Image) (m i n : ℕ) : Type 0 where
  pub one : little_number 4 (drop (4 * i) (after m)) ≡ n
  pub rest : (k : ℕ) → k < NUMBERS → k ≢ i → little_number 4 (drop (4 * k) (after m)) ≡ little_number 4 (drop (4 * k) (content m))
  pub stays : (x : ℕ) → x ≢ n → x ≢ m → after x ≡ content x
