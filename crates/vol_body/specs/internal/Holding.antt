-- Pointer sectors that `read_at` or `shrink` holds in memory, so that it reads each of them once. `HeldPointers` has the
-- triple-indirect block (`triple`), one double-indirect block (`top`) and one pointer sector more (`above`), and `IsHeld`
-- says of each that it is as the volume has it, if the call goes on to a data block that it serves.
use Rattle.std.specs.Prelude.{◌≡◌, ◌≢◌, ◌≤◌, ◌+◌, ◌*◌, ℕ, true}
use Rattle.vol_sector.specs.Disk.{Image}
use Rattle.vol_alloc.specs.Alloc.{taken_of}
use Rattle.vol_alloc.specs.declared.sectors.Alloc.{Alloc}
use Rattle.vol_inode.specs.declared.entry.Entry.{Entry}
use Rattle.vol_inode.specs.declared.pointers.TheConstants.{DIRECT, LISTED, TWICE_LISTED, SERVED, NUMBERS}
use Rattle.vol_body.specs.declared.holding.HeldPointers.{HeldPointers}
use Rattle.vol_body.specs.Body.{double_indirect_block, triple_indirect_block}
use Rattle.vol_body.specs.internal.Writing.{Mirrors, segment, double_of}

-- Where a call goes up to the data block `last`: the triple-indirect block is held, and so are the block of the group and
-- the double-indirect block that names it.
pub record IsHeld (content : Image) (e : Entry) (held : HeldPointers) (last : ℕ) : Type 0 where
  pub triple : TWICE_LISTED ≤ last → Mirrors content e triple_indirect_block held.triple.number held.triple.image
  pub top : LISTED + SERVED * double_of held.group ≤ last → Mirrors content e (double_indirect_block (double_of held.group)) held.top.number held.top.image
  pub above : DIRECT + NUMBERS * held.group ≤ last → Mirrors content e (segment held.group) held.above.number held.above.image

-- those that are there are taken
pub record KnowsHeld (a : Alloc) (held : HeldPointers) : Type 0 where
  pub triple : held.triple.number ≢ 0 → taken_of a held.triple.number ≡ true
  pub top : held.top.number ≢ 0 → taken_of a held.top.number ≡ true
  pub above : held.above.number ≢ 0 → taken_of a held.above.number ≡ true
