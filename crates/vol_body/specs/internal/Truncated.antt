-- What a shorter file keeps and frees. Of four sectors at most only a beginning is kept, and `IsTruncation` says what
-- is written there; every other one stays whole or is freed (`IsFreed`).
use Rattle.std.specs.Prelude.{◌≡◌, ◌≢◌, ◌≤◌, ◌<◌, ◌+◌, ◌-◌, ◌*◌, ◌/◌, ◌==◌, ◌⊎◌, ◌++◌, ℕ, Bool, true, List, take, replicate, min, if◌then◌else◌}
use Rattle.vol_sector.specs.Disk.{Image, put}
use Rattle.vol_inode.specs.Space.{blocks_for_size, inner_blocks_for, double_blocks_for}
use Rattle.vol_inode.specs.declared.entry.Entry.{Entry}
use Rattle.vol_inode.specs.declared.pointers.TheConstants.{DIRECT, LISTED, TWICE_LISTED, NUMBERS, SERVED}
use Rattle.vol_body.specs.declared.truncation.CutSector.{CutSector}
use Rattle.vol_body.specs.declared.truncation.Truncation.{Truncation}
use Rattle.vol_body.specs.Body.{BlockPosition, data_block, indirect_block, inner_block, double_indirect_block, triple_indirect_block, IsPosition, first_served, named, number_in}
use Rattle.vol_body.specs.internal.Writing.{segment, segment_of, double_of}

-- how many bytes of the sector at this position a file of this size keeps
abbrev pub kept_bytes : ℕ → BlockPosition → ℕ
kept_bytes size (data_block j) = min 512 (size - 512 * j)
kept_bytes size indirect_block = 4 * min NUMBERS (blocks_for_size size - DIRECT)
kept_bytes size (inner_block i) = 4 * min NUMBERS (blocks_for_size size - (LISTED + NUMBERS * i))
kept_bytes size (double_indirect_block d) = 4 * min NUMBERS (inner_blocks_for (blocks_for_size size - (LISTED + SERVED * d)))
kept_bytes size triple_indirect_block = 4 * min NUMBERS (double_blocks_for (blocks_for_size size - TWICE_LISTED))

-- The data block that the first byte past this size falls in: at a border of blocks the next one, of which nothing is kept. Only of
-- this block, of `cut_segment`, of `cut_double` and of the triple-indirect block may a part be kept.
abbrev pub cut_data_block : ℕ → BlockPosition
cut_data_block size = data_block (size / 512)

-- The pointer sector (`segment`) that lists `cut_data_block`. Where the entry names that one itself, it is the indirect block, of
-- which nothing is kept then.
abbrev pub cut_segment : ℕ → BlockPosition
cut_segment size = segment (segment_of (size / 512))

-- The double-indirect block that names `cut_segment`, or the first one.
abbrev pub cut_double : ℕ → BlockPosition
cut_double size = double_indirect_block (double_of (segment_of (size / 512)))

-- the bytes before a position of a sector, and zeros from it on
abbrev pub zeroed_from : ℕ → List ℕ → List ℕ
zeroed_from kept bytes = take kept bytes ++ replicate (512 - kept) 0

-- what is to be written for a sector of which a beginning is kept; sector 0 stands for nothing
pub record IsCut (content : Image) (n kept : ℕ) (c : CutSector) : Type 0 where
  pub sector : c.sector ≢ 0 → c.sector ≡ n
  pub image : c.sector ≢ 0 → c.image ≡ zeroed_from kept (content n)
  pub short : c.sector ≢ 0 → kept < 512
  pub same : c.sector ≡ 0 → n ≢ 0 → 0 < kept → kept < 512 → content n ≡ zeroed_from kept (content n)

-- the image with what is to be written
abbrev pub with_cut : CutSector → Image → Image
with_cut c image = if c.sector == 0 then image else put c.sector c.image image

-- what is to be written for a file of this size
pub record IsTruncation (content : Image) (e : Entry) (size : ℕ) (truncation : Truncation) : Type 0 where
  pub data_block : IsCut content (named content e (cut_data_block size)) (kept_bytes size (cut_data_block size)) truncation.data_block
  pub above : IsCut content (named content e (cut_segment size)) (kept_bytes size (cut_segment size)) truncation.above
  pub double : IsCut content (named content e (cut_double size)) (kept_bytes size (cut_double size)) truncation.double
  pub triple : IsCut content (named content e triple_indirect_block) (kept_bytes size triple_indirect_block) truncation.triple

-- the sectors that are to be written are among these
pub record AreWithin (first end : ℕ) (truncation : Truncation) : Type 0 where
  pub data_block : truncation.data_block.sector ≢ 0 → (first ≤ truncation.data_block.sector) × (truncation.data_block.sector < end)
  pub above : truncation.above.sector ≢ 0 → (first ≤ truncation.above.sector) × (truncation.above.sector < end)
  pub double : truncation.double.sector ≢ 0 → (first ≤ truncation.double.sector) × (truncation.double.sector < end)
  pub triple : truncation.triple.sector ≢ 0 → (first ≤ truncation.triple.sector) × (truncation.triple.sector < end)

abbrev pub with_truncation : Truncation → Image → Image
with_truncation truncation image = with_cut truncation.triple (with_cut truncation.double (with_cut truncation.above (with_cut truncation.data_block image)))

-- those of these sectors that were taken are free now, and all others stay
pub record Frees (before now : ℕ → Bool) (These : ℕ → Type 0) : Type 0 where
  pub none_taken : (n : ℕ) → now n ≡ true → before n ≡ true
  pub freed : (n : ℕ) → These n → now n ≡ true → ⊥
  pub others : (n : ℕ) → (These n → ⊥) → now n ≡ before n

-- the number stands among these, at this position or after it
abbrev pub IsAmong : (ℕ → ℕ) → ℕ → ℕ → ℕ → Type 0
IsAmong numbers from end n = (i : ℕ) × (from ≤ i) × (i < end) × (numbers i ≡ n)

-- the number stands in the block from this position on, or is that of the block itself where it keeps none
abbrev pub IsFreedWithBlock : Image → ℕ → ℕ → ℕ → Type 0
IsFreedWithBlock content of_list from n = (IsAmong (number_in content of_list) from NUMBERS n) ⊎ ((from ≡ 0) × (of_list ≡ n))

-- the number goes with one of the inner blocks before one, which serve data blocks from `start` on, where the file keeps this many
abbrev pub IsFreedWithLater : Image → (ℕ → ℕ) → ℕ → ℕ → ℕ → ℕ → Type 0
IsFreedWithLater content numbers start count end n = (i : ℕ) × (i < end) × IsFreedWithBlock content (numbers i) (count - (start + NUMBERS * i)) n

-- the number goes with one of the inner blocks of a double-indirect block, or is its own where it keeps none
abbrev pub IsFreedWithDouble : Image → ℕ → ℕ → ℕ → ℕ → Type 0
IsFreedWithDouble content of_list start count n = IsFreedWithLater content (number_in content of_list) start count NUMBERS n ⊎ ((count ≤ start) × (of_list ≡ n))

-- the number goes with one of the double-indirect blocks before one
abbrev pub IsFreedWithDoubles : Image → (ℕ → ℕ) → ℕ → ℕ → ℕ → Type 0
IsFreedWithDoubles content numbers count end n = (m : ℕ) × (m < end) × IsFreedWithDouble content (numbers m) (TWICE_LISTED + SERVED * m) count n

-- the number goes with one of those of the triple-indirect block, or is its own where it keeps none
abbrev pub IsFreedWithTriple : Image → ℕ → ℕ → ℕ → Type 0
IsFreedWithTriple content of_list count n = IsFreedWithDoubles content (number_in content of_list) count NUMBERS n ⊎ ((count ≤ TWICE_LISTED) × (of_list ≡ n))

-- the number is that of a sector whose position serves no data block that is kept
abbrev pub IsFreed : Image → Entry → ℕ → ℕ → Type 0
IsFreed content e count n = (p : BlockPosition) × IsPosition p × (count ≤ first_served p) × (named content e p ≡ n)
