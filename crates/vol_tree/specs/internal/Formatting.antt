-- The slots of a new volume, and what the steps of formatting leave. Sector 0 is zeros while the other sectors are
-- written, so of a crash in between it is enough to say which sectors stay.
use Rattle.std.specs.Prelude.{◌≡◌, ◌+◌, ◌<◌, ◌==◌, ℕ, List, [], if◌then◌else◌, replicate}
use Rattle.vol_sector.specs.Disk.{Image}
use Rattle.vol_log.specs.Header.{header_bytes}
use Rattle.vol_inode.specs.declared.entry.Entry.{Entry}
use Rattle.vol_inode.specs.declared.entry.Kind.TheVariants.{Directory}
use Rattle.vol_inode.specs.Spelling.{spelling, unused}
use Rattle.vol_log.specs.declared.layout.TheConstants.{FIRST_AFTER_LOG}
use Rattle.vol_dirs.specs.Slots.{slot_sector}

-- the root, as a volume keeps it
abbrev pub root_entry : Entry
root_entry = record { kind = Directory; name_length = 0; parent = 0; size = 0; name = replicate 255 0; pointers = replicate 61 0 }

-- the slot of a new volume, that of serial s + 1: the root in the first one
abbrev pub fresh_slot : ℕ → List ℕ
fresh_slot s = if s == 0 then spelling root_entry else unused

-- the slots hold only the root
abbrev pub HasFreshSlots : ℕ → Image → Type 0
HasFreshSlots slots image = (s : ℕ) → s < slots → image (slot_sector (s + 1)) ≡ fresh_slot s

-- What a new volume has beside its superblock in sector 0: an empty header of the log in sector 1, and slots that hold only the
-- root. Of all other sectors nothing is asked.
pub record IsFresh (slots : ℕ) (image : Image) : Type 0 where
  pub log : image 1 ≡ header_bytes []
  pub entries : HasFreshSlots slots image

-- a step that leaves the sectors before the slots
abbrev pub OnlyAfterLogChanges : Image → Image → Type 0
OnlyAfterLogChanges before after = (k : ℕ) → k < FIRST_AFTER_LOG → after k ≡ before k

-- a step that leaves the first sector
abbrev pub OnlyAfterFrontChanges : Image → Image → Type 0
OnlyAfterFrontChanges before after = after 0 ≡ before 0
