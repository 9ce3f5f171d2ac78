-- What a change of one file asks of a volume and leaves on it (`docs/VOLUME.md`, "File"). `write_at` and `set_size`
-- require `CanChange`, and at Ok they promise `FileBecomes` and `LosesNoSector` of a sound file (`IfSound`), and
-- `EntryBecomes` of any, but for a write of no bytes.
use Rattle.std.specs.Prelude.{◌≡◌, ◌≢◌, ◌≤◌, ◌<◌, ◌+◌, ◌==◌, ◌⊎◌, ℕ, Bool, true, false, not, List, count_by}
use Rattle.vol_sector.specs.Disk.{Image}
use Rattle.vol_sector.specs.declared.device.Device.{Ghosts}
use Rattle.vol_log.specs.Log.{view, device_of, log_sectors, room_of}
use Rattle.vol_log.specs.declared.log.Log.{Log}
use Rattle.vol_alloc.specs.Alloc.{first_of, end_of, taken_of, free_of}
use Rattle.vol_alloc.specs.declared.sectors.Alloc.{Alloc}
use Rattle.vol_inode.specs.declared.entry.Entry.{Entry}
use Rattle.vol_inode.specs.declared.entry.Kind.TheVariants.{Directory}
use Rattle.vol_log.specs.declared.layout.TheConstants.{FIRST_AFTER_LOG}
use Rattle.vol_inode.specs.declared.version.TheConstants.{LARGEST_SIZE}
use Rattle.vol_inode.specs.declared.version.Version.{Version}
use Rattle.vol_inode.specs.Entry.{IsEntry}
use Rattle.vol_inode.specs.Space.{size_limit}
use Rattle.vol_inode.specs.Spelling.{spelling}
use Rattle.vol_body.specs.Body.{BlockPosition, IsPosition, named, positions_of, bytes_of, NamesTaken, NamesOthers, IsBody}

-- the file names this sector
pub record NamesSector (content : Image) (e : Entry) (n : ℕ) : Type 0 where
  pub some : n ≢ 0
  pub position : (p : BlockPosition) × IsPosition p × (named content e p ≡ n)

-- how many sectors the file names
abbrev pub used_of : Image → Entry → ℕ
used_of content e = count_by (λ p. not (named content e p == 0)) (positions_of e.size)

-- Other sectors stay: those out of the range of data sectors, but for the file's entry, and those that are taken and not
-- the file's.
pub record OthersStay (inode_sector first end : ℕ) (is_taken : ℕ → Bool) (content after : Image) (e : Entry) : Type 0 where
  pub outside : (n : ℕ) → n ≢ inode_sector → (n < first) ⊎ (end ≤ n) → after n ≡ content n
  pub taken : (n : ℕ) → n ≢ inode_sector → is_taken n ≡ true → NamesOthers content e n → after n ≡ content n

-- The taken sectors change with the names of the file.
pub record TakesAndGives (before now : ℕ → Bool) (content after : Image) (e changed : Entry) : Type 0 where
  -- what the file names now is taken; where it did not name it before, it was free
  pub taken : NamesTaken now after changed
  pub fresh : (n : ℕ) → NamesSector after changed n → NamesOthers content e n → before n ≡ false
  -- what it names no more is free
  pub given : (n : ℕ) → NamesSector content e n → NamesOthers after changed n → now n ≡ false
  -- all others stay
  pub others : (n : ℕ) → NamesOthers content e n → NamesOthers after changed n → now n ≡ before n

-- A file may be changed, by staging this many sectors: its entry is in a sector after the log and before the data sectors, and these
-- are on the disk; the log has the room; the file is no greater than files may be.
pub record CanChange {D : Type 0} {g : Ghosts D} (most inode_sector : ℕ) (log : Log D g) (sectors : Alloc) (e : Entry) : Type 0 where
  pub after_log : FIRST_AFTER_LOG ≤ inode_sector
  pub slot : inode_sector < first_of sectors
  pub within : inode_sector < log_sectors log
  pub there : end_of sectors ≤ log_sectors log
  pub room : most ≤ room_of log
  pub small_before : e.size ≤ LARGEST_SIZE

-- The fact holds where the device keeps its model, the file names only taken sectors, and it keeps the rules on them.
abbrev pub IfSound : {D : Type 0} {g : Ghosts D} → Log D g → Alloc → Entry → Type 0 → Type 0
IfSound {D} {g} log sectors e Fact = g.honest (device_of log) → NamesTaken (taken_of sectors) (view log) e → IsBody (view log) e → Fact

-- A file becomes one with these bytes. Its entry is in the sector `inode_sector`.
pub record FileBecomes (inode_sector : ℕ) (a b : Alloc) (content after : Image) (e changed : Entry) (new : List ℕ) : Type 0 where
  pub bytes : bytes_of after changed ≡ new
  -- it keeps the rules on its sectors
  pub rules : IsBody after changed
  pub others : OthersStay inode_sector (first_of a) (end_of a) (taken_of a) content after e
  pub taken : TakesAndGives (taken_of a) (taken_of b) content after e changed
  -- its entry keeps the rules of a version, where the size is within that version's limit, and 0 for a directory
  pub right : (version : Version) → IsEntry version e → (e.kind ≡ Directory → changed.size ≡ 0) → changed.size ≤ size_limit version → IsEntry version changed

-- No free sector is lost: those that are free and those that the file names are together no fewer than before.
abbrev pub LosesNoSector : Alloc → Alloc → Image → Image → Entry → Entry → Type 0
LosesNoSector a b content after e changed = free_of a + used_of content e ≤ free_of b + used_of after changed

-- the entry has this size, and else only other pointers; its sector spells it
pub record EntryBecomes (inode_sector size : ℕ) (after : Image) (e changed : Entry) : Type 0 where
  pub entry : changed ≡ record e { size = size; pointers = changed.pointers }
  pub staged : after inode_sector ≡ spelling changed
