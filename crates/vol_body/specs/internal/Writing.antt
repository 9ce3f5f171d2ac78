-- Steps of a write: what changes of a file, and how its pointer sectors stand in memory. A write first reads all that
-- it needs, its pointer sectors by `MirrorsAll`; then it stages data blocks and pointer sectors, each step by a
-- `ChangesPositions`, and the entry last.
use Rattle.std.specs.Prelude.{◌≡◌, ◌≢◌, ◌⊎◌, ◌≤◌, ◌<◌, ◌+◌, ◌-◌, ◌*◌, ◌/◌, ◌==◌, ◌++◌, ℕ, zero, suc, true, false, List, length, take, drop, replicate, nat_lt, min, max, if◌then◌else◌}
use Rattle.vol_sector.specs.Disk.{Image}
use Rattle.vol_sector.specs.declared.device.Device.{Ghosts}
use Rattle.vol_log.specs.Log.{device_of, log_sectors, has_failed, is_staged}
use Rattle.vol_log.specs.declared.log.Log.{Log}
use Rattle.vol_alloc.specs.Alloc.{first_of, end_of, taken_of, free_of}
use Rattle.vol_alloc.specs.declared.sectors.Alloc.{Alloc}
use Rattle.vol_inode.specs.declared.entry.Entry.{Entry}
use Rattle.vol_inode.specs.Space.{blocks_for_size, need_of}
use Rattle.vol_body.specs.declared.pointer_sectors.PointerSectors.{PointerSectors}
use Rattle.vol_body.specs.Body.{BlockPosition, data_block, indirect_block, inner_block, double_indirect_block, triple_indirect_block, IsPosition, first_served, named, block_bytes, bytes_of, NamesTaken, IsBody}
use Rattle.vol_body.specs.Bytes.{written_bytes}
use Rattle.vol_body.specs.Change.{used_of, OthersStay, TakesAndGives}
use Rattle.vol_body.specs.internal.Naming.{IsNaming}
use Rattle.vol_inode.specs.declared.pointers.TheConstants.{DIRECT, INDIRECT, DOUBLE_INDIRECT, TRIPLE_INDIRECT, LISTED, TWICE_LISTED, SERVED, MOST_BLOCKS, NUMBERS}
use Rattle.vol_log.specs.declared.layout.TheConstants.{FIRST_AFTER_LOG}
use Rattle.vol_inode.specs.declared.version.TheConstants.{LARGEST_SIZE}

-- the position of the pointer sector that lists the data blocks from DIRECT + NUMBERS * g on
abbrev pub segment : ℕ → BlockPosition
segment zero = indirect_block
segment (suc i) = inner_block i

-- the entry's pointer s is for this position
abbrev pub PointedAt : ℕ → BlockPosition → Type 0
PointedAt s (data_block j) = (s ≡ j) × (j < DIRECT)
PointedAt s indirect_block = s ≡ INDIRECT
PointedAt s (inner_block i) = ⊥
PointedAt s (double_indirect_block d) = (s ≡ DOUBLE_INDIRECT) × (d ≡ 0)
PointedAt s triple_indirect_block = s ≡ TRIPLE_INDIRECT

-- the pointer sector of the first position has the number of the second one at i
abbrev pub ListedAt : BlockPosition → ℕ → BlockPosition → Type 0
ListedAt indirect_block i (data_block j) = DIRECT + i ≡ j
ListedAt (inner_block k) i (data_block j) = LISTED + NUMBERS * k + i ≡ j
ListedAt (double_indirect_block d) i (inner_block k) = NUMBERS * d + i ≡ k
ListedAt triple_indirect_block i (double_indirect_block d) = 1 + i ≡ d
ListedAt p i q = ⊥

-- a new pointer sector lists nothing
abbrev pub IsBlank : BlockPosition → List ℕ → Type 0
IsBlank (data_block j) image = Unit {0}
IsBlank indirect_block image = image ≡ replicate 512 0
IsBlank (inner_block i) image = image ≡ replicate 512 0
IsBlank (double_indirect_block d) image = image ≡ replicate 512 0
IsBlank triple_indirect_block image = image ≡ replicate 512 0

-- the number that the file names at this position, and the bytes of that sector
pub record Mirrors (content : Image) (e : Entry) (p : BlockPosition) (number : ℕ) (image : List ℕ) : Type 0 where
  pub names : number ≡ named content e p
  pub bytes : image ≡ block_bytes content number

-- The file keeps the rules on names, what it names is taken, and there is space for all of it.
pub record IsReady (a : Alloc) (content : Image) (e : Entry) : Type 0 where
  pub naming : IsNaming content e
  pub taken : NamesTaken (taken_of a) content e
  pub space : need_of e.size ≤ free_of a + used_of content e
  pub small : e.size ≤ LARGEST_SIZE

-- the file names the same at this position, with the same bytes
pub record SamePlace (content after : Image) (e changed : Entry) (p : BlockPosition) : Type 0 where
  pub name : named after changed p ≡ named content e p
  pub bytes : block_bytes after (named after changed p) ≡ block_bytes content (named content e p)

-- A change of the file at some of its positions.
pub record ChangesPositions (a b : Alloc) (content after : Image) (e changed : Entry) (Touched : BlockPosition → Type 0) : Type 0 where
  pub ready : IsReady b after changed
  pub others : (inode_sector : ℕ) → OthersStay inode_sector (first_of a) (end_of a) (taken_of a) content after e
  pub takes : TakesAndGives (taken_of a) (taken_of b) content after e changed
  pub stays : (p : BlockPosition) → IsPosition p → (Touched p → ⊥) → SamePlace content after e changed p
  pub size : changed.size ≡ e.size
  pub count : free_of a + used_of content e ≤ free_of b + used_of after changed

-- The file names no sector at this position, and has the space for one.
pub record IsMissing (a : Alloc) (content : Image) (e : Entry) (p : BlockPosition) : Type 0 where
  pub ready : IsReady a content e
  pub none : named content e p ≡ 0
  pub serves : first_served p < blocks_for_size e.size

-- A change by which the file names a sector at one more position.
pub record AddsSector (a b : Alloc) (content after : Image) (e changed : Entry) (Touched : BlockPosition → Type 0) (p : BlockPosition) (number : ℕ) (image : List ℕ) : Type 0 where
  pub changes : ChangesPositions a b content after e changed Touched
  pub mirror : Mirrors after changed p number image
  pub some : number ≢ 0

-- the position is that of a data block between two
abbrev pub IsBlockIn : ℕ → ℕ → BlockPosition → Type 0
IsBlockIn from to (data_block j) = (from ≤ j) × (j < to)
IsBlockIn from to p = ⊥

-- the file's data blocks between two have these bytes
abbrev pub HasBlocks : Image → Entry → ℕ → ℕ → (ℕ → List ℕ) → Type 0
HasBlocks content e from to image = (j : ℕ) → from ≤ j → j < to → block_bytes content (named content e (data_block j)) ≡ image j

-- Sectors of the log are staged, and nothing else is done.
pub record OnlyPuts {D : Type 0} {g : Ghosts D} (old new : Log D g) : Type 0 where
  pub device : device_of new ≡ device_of old
  pub sectors : log_sectors new ≡ log_sectors old
  pub failed : has_failed new ≡ has_failed old
  pub staged : (n : ℕ) → is_staged old n ≡ true → is_staged new n ≡ true

-- Sectors may be taken and staged: they are after the log and on the disk, and the log works.
pub record CanStage {D : Type 0} {g : Ghosts D} (log : Log D g) (a : Alloc) : Type 0 where
  pub after_log : FIRST_AFTER_LOG ≤ first_of a
  pub there : end_of a ≤ log_sectors log
  pub working : has_failed log ≡ false

-- So many bytes from an offset on touch each data block between two, and end where a file may.
pub record AreTouched (offset count from to : ℕ) : Type 0 where
  pub first : offset < 512 * from + 512
  pub last : 512 * to < offset + count + 512
  pub small : offset + count ≤ LARGEST_SIZE

-- The pointer sector that has the number of the data block `start` first lists each data block between two.
pub record AreListed (start from to : ℕ) : Type 0 where
  pub starts : start ≤ from
  pub ends : to ≤ start + NUMBERS
  pub last : to ≤ MOST_BLOCKS

-- the sector is taken; 0 stands for none
abbrev pub IsKnown : Alloc → ℕ → Type 0
IsKnown a n = n ≢ 0 → taken_of a n ≡ true

-- one for a sector that has a place of the log already
abbrev pub staged_count : {D : Type 0} {g : Ghosts D} → Log D g → ℕ → ℕ
staged_count log n = if n == 0 then 0 else (if is_staged log n then 1 else 0)

-- the range of the free sectors stays
pub record SameRange (a b : Alloc) : Type 0 where
  pub first : first_of b ≡ first_of a
  pub end : end_of b ≡ end_of a

-- The bytes of data block j after a write at an offset: the new bytes that fall into it, and the old ones around them, which
-- stand in the old bytes of the first and of the last data block that is touched.
abbrev pub image_of : ℕ → List ℕ → List ℕ → List ℕ → ℕ → List ℕ
image_of offset bytes first last j =
    let old = if nat_lt (512 * j) offset then first else (if nat_lt (offset + length bytes) (512 * j + 512) then last else replicate 512 0) in
    let from = max offset (512 * j) in
    let to = min (offset + length bytes) (512 * j + 512) in
    take (from - 512 * j) old ++ take (to - from) (drop (from - offset) bytes) ++ drop (to - 512 * j) old

-- the position is that of a pointer sector
abbrev pub IsPointer : BlockPosition → Type 0
IsPointer (data_block j) = ⊥
IsPointer indirect_block = Unit {0}
IsPointer (inner_block i) = Unit {0}
IsPointer (double_indirect_block d) = Unit {0}
IsPointer triple_indirect_block = Unit {0}

-- which double-indirect block names the pointer sector of a segment: the first one where the entry names it itself
abbrev pub double_of : ℕ → ℕ
double_of g = (g - 1) / NUMBERS

-- the position is that of the pointer sector of a segment, or of one by which it is found
abbrev pub IsAbove : ℕ → BlockPosition → Type 0
IsAbove g p = (p ≡ segment g) ⊎ ((p ≡ double_indirect_block (double_of g)) ⊎ (p ≡ triple_indirect_block))

-- the segment that lists this data block, or the first one past the direct ones
abbrev pub segment_of : ℕ → ℕ
segment_of first = (first - DIRECT) / NUMBERS

-- the pointer sectors that a write of the data blocks from one to another uses, in memory
pub record MirrorsAll (content : Image) (e : Entry) (all : PointerSectors) (first last : ℕ) : Type 0 where
  pub triple : TWICE_LISTED ≤ last → Mirrors content e triple_indirect_block all.triple.number all.triple.image
  pub double : LISTED + SERVED * double_of (segment_of first) ≤ last → Mirrors content e (double_indirect_block (double_of (segment_of first))) all.double.number all.double.image
  pub next_double : double_of (segment_of first + 1) ≢ double_of (segment_of first) → LISTED + SERVED * double_of (segment_of first + 1) ≤ last
      → Mirrors content e (double_indirect_block (double_of (segment_of first + 1))) all.next_double.number all.next_double.image
  pub early : DIRECT + NUMBERS * segment_of first ≤ last → Mirrors content e (segment (segment_of first)) all.early.number all.early.image
  pub late : LISTED + NUMBERS * segment_of first ≤ last → Mirrors content e (segment (segment_of first + 1)) all.late.number all.late.image

-- those that are there are taken
pub record KnowsAll (a : Alloc) (all : PointerSectors) : Type 0 where
  pub triple : IsKnown a all.triple.number
  pub double : IsKnown a all.double.number
  pub next_double : IsKnown a all.next_double.number
  pub early : IsKnown a all.early.number
  pub late : IsKnown a all.late.number

-- What a write of some bytes leaves.
pub record WriteLeaves (inode_sector : ℕ) (a b : Alloc) (content after : Image) (e changed : Entry) (offset : ℕ) (new : List ℕ) : Type 0 where
  pub bytes : bytes_of after changed ≡ written_bytes (bytes_of content e) offset new
  pub rules : IsBody after changed
  pub others : OthersStay inode_sector (first_of a) (end_of a) (taken_of a) content after e
  pub taken : TakesAndGives (taken_of a) (taken_of b) content after e changed
  pub count : free_of a + used_of content e ≤ free_of b + used_of after changed
