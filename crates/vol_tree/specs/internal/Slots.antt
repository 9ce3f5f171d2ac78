-- `slot_of`: the entry in the slot of a serial, as the sectors spell it. Calls that read or rewrite an entry need it
-- with its pointers, and a tree has bytes in their place.
use Rattle.std.specs.Prelude.{◌-◌, ℕ, Option, None, get_or}
use Rattle.vol_sector.specs.Disk.{Image}
use Rattle.vol_inode.specs.declared.entry.Entry.{Entry}
use Rattle.vol_tree.specs.declared.superblock.Superblock.{Superblock}
use Rattle.vol_tree.specs.Clauses.{slots_in}

-- the entry of a serial
abbrev pub slot_of : Image → Superblock → ℕ → Option Entry
slot_of content v serial = get_or (slots_in content v.slots) (serial - 1) None
