-- What an open volume keeps of its parts: log, names, free sectors, numbers, and the space that its files need.
-- `IsOpen` is the invariant of `Volume`; what it says of contents holds on an honest device, and what it says of the
-- disk and of taken sectors only until an operation fails (`IsWorking`).
use Rattle.std.specs.Prelude.{◌≡◌, ◌+◌, ◌≤◌, ℕ, true, false, Some, None, get_or}
use Rattle.vol_sector.specs.Disk.{Image, Disk}
use Rattle.vol_sector.specs.declared.device.Device.{Ghosts}
use Rattle.vol_log.specs.Log.{view, device_of, log_sectors, has_failed}
use Rattle.vol_log.specs.Batch.{Settled}
use Rattle.vol_alloc.specs.Alloc.{first_of, end_of, taken_of}
use Rattle.vol_alloc.specs.declared.sectors.Alloc.{Alloc}
use Rattle.vol_inode.specs.declared.entry.Entry.{Entry}
use Rattle.vol_body.specs.Body.{NamesTaken, NamesOthers}
use Rattle.vol_dirs.specs.Names.{slots_of, Shows}
use Rattle.vol_tree.specs.declared.superblock.Superblock.{Superblock}
use Rattle.vol_tree.specs.declared.parts.Parts.{Parts}
use Rattle.vol_tree.specs.Superblock.{superblock, HasRanges}
use Rattle.vol_tree.specs.Space.{space}
use Rattle.vol_tree.specs.Stands.{Slots, IsVolume}
use Rattle.vol_tree.specs.Clauses.{slots_in, tree_in}
use Rattle.vol_log.specs.declared.layout.TheConstants.{FIRST_AFTER_LOG}

-- the content is that of a volume, but for its first sector
pub record IsContent (content : Image) (v : Superblock) : Type 0 where
  pub volume : IsVolume content v (slots_in content v.slots)

-- Exactly the sectors are taken that entries name.
pub record AreTaken (content : Image) (v : Superblock) (slots : Slots) (sectors : Alloc) : Type 0 where
  pub named : (s : ℕ) (e : Entry) → get_or slots s None ≡ Some e → NamesTaken (taken_of sectors) content e
  pub only : (n : ℕ) → taken_of sectors n ≡ true → ((s : ℕ) (e : Entry) → get_or slots s None ≡ Some e → NamesOthers content e n) → ⊥

-- What holds while no operation has failed: what reads give of the disk is the volume that was committed last, and the
-- sectors are taken that the content names.
pub record IsWorking (disk : Disk) (content : Image) (v : Superblock) (sectors : Alloc) : Type 0 where
  pub settled : Settled v.sectors disk
  pub front : content 0 ≡ superblock v
  pub committed_front : disk.seen 0 ≡ superblock v
  pub committed : IsContent disk.seen v
  pub taken : AreTaken content v (slots_in content v.slots) sectors

pub record IsOpen {D : Type 0} {g : Ghosts D} (p : Parts D g) : Type 0 where
  pub ranges : HasRanges p.numbers
  pub sectors : log_sectors p.log ≡ p.numbers.sectors
  pub on_device : p.numbers.sectors ≤ g.size (device_of p.log)
  pub first : first_of p.sectors ≡ FIRST_AFTER_LOG + p.numbers.slots
  pub end : end_of p.sectors ≡ p.numbers.sectors
  pub slots : slots_of p.dirs ≡ p.numbers.slots
  pub content : g.honest (device_of p.log) → IsContent (view p.log) p.numbers
  pub reserved : g.honest (device_of p.log) → p.reserved ≡ space (tree_in (view p.log) p.numbers)
  pub shows : g.honest (device_of p.log) → Shows p.numbers.version (view p.log) p.numbers.slots p.dirs
  pub working : g.honest (device_of p.log) → has_failed p.log ≡ false
      → IsWorking (g.disk (device_of p.log)) (view p.log) p.numbers p.sectors
