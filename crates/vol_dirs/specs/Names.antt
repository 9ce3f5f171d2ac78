-- What callers see of the names that `Dirs` holds in memory (`docs/VOLUME.md`, "Entry"). The contracts of `Dirs` speak
-- by `Names`, a relation of parent, name and serial, and `Shows` says that it has exactly the entries in the slots of
-- an image, and that each of them has its seat.
use Rattle.std.specs.Prelude.{◌≡◌, ◌↔◌, ◌≤◌, ◌<◌, ℕ, List}
use Rattle.vol_sector.specs.Disk.{Image}
use Rattle.vol_inode.specs.declared.entry.Entry.{Entry}
use Rattle.vol_inode.specs.declared.version.Version.{Version}
use Rattle.vol_inode.specs.Entry.{IsEntry, name_of}
use Rattle.vol_inode.specs.Spelling.{spelling}
use Rattle.vol_dirs.specs.Slots.{slot_sector}
use Rattle.vol_dirs.specs.Listing.{HoldsEntry}
use Rattle.vol_dirs.specs.SerialOrder.{keys_of}
use Rattle.vol_dirs.specs.Seats.{seat_of, seat_at}
use Rattle.vol_dirs.specs.declared.dirs.Dirs.{Dirs}

-- how many slots the volume has
abbrev pub slots_of : Dirs → ℕ
slots_of dirs = dirs.slots

-- an entry with this parent, name and serial is held
abbrev pub Names : Dirs → ℕ → List ℕ → ℕ → Type 0
Names dirs parent name serial = HoldsEntry (keys_of dirs.keys) parent name serial

-- no lesser serial is held with this name in the directory
abbrev pub IsLeastOf : Dirs → ℕ → List ℕ → ℕ → Type 0
IsLeastOf dirs parent name serial = (other : ℕ) → Names dirs parent name other → serial ≤ other

-- no entry of this serial is held
abbrev pub IsFree : Dirs → ℕ → Type 0
IsFree dirs serial = (parent : ℕ) (name : List ℕ) → Names dirs parent name serial → ⊥

-- an entry of this serial is held in the directory
abbrev pub IsChild : Dirs → ℕ → ℕ → Type 0
IsChild dirs parent serial = (name : List ℕ) × Names dirs parent name serial

-- no entry in the directory has a greater serial
abbrev pub NoChildOver : Dirs → ℕ → ℕ → Type 0
NoChildOver dirs parent after = (serial : ℕ) → IsChild dirs parent serial → serial ≤ after

-- the least greater serial of an entry in the directory
pub record IsNextChild (dirs : Dirs) (parent after serial : ℕ) : Type 0 where
  pub over : after < serial
  pub child : IsChild dirs parent serial
  pub least : (other : ℕ) → IsChild dirs parent other → after < other → serial ≤ other

-- the entry has this parent and name, and this is its serial
pub record IsNameOf (entry : Entry) (own : ℕ) (parent : ℕ) (name : List ℕ) (serial : ℕ) : Type 0 where
  pub parent_is : parent ≡ entry.parent
  pub name_is : name ≡ name_of entry
  pub serial_is : serial ≡ own

-- the bytes are those of an entry with this parent and name
pub record IsSpelled (version : Version) (bytes : List ℕ) (parent : ℕ) (name : List ℕ) : Type 0 where
  pub entry : Entry
  pub right : IsEntry version entry
  pub spelled : bytes ≡ spelling entry
  pub parent_is : parent ≡ entry.parent
  pub name_is : name ≡ name_of entry

-- the serial's slot holds an entry with this parent and name
pub record IsInSlot (version : Version) (image : Image) (slots parent : ℕ) (name : List ℕ) (serial : ℕ) : Type 0 where
  pub first : 1 ≤ serial
  pub last : serial ≤ slots
  pub spelled : IsSpelled version (image (slot_sector serial)) parent name

-- Exactly the entries in the slots are held, and each has its seat.
pub record Shows (version : Version) (image : Image) (slots : ℕ) (dirs : Dirs) : Type 0 where
  pub names : (parent : ℕ) (name : List ℕ) (serial : ℕ) → Names dirs parent name serial ↔ IsInSlot version image slots parent name serial
  pub seats : (serial : ℕ) (e : Entry) → 1 ≤ serial → serial ≤ slots → IsEntry version e → image (slot_sector serial) ≡ spelling e → seat_at dirs serial ≡ seat_of e

-- each serial of a slot is held
abbrev pub NoneIsFree : Dirs → Type 0
NoneIsFree dirs = (s : ℕ) → 1 ≤ s → s ≤ slots_of dirs → IsFree dirs s → ⊥

-- the least serial of a slot that isn't held
pub record IsLeastFree (dirs : Dirs) (serial : ℕ) : Type 0 where
  pub first : 1 ≤ serial
  pub last : serial ≤ slots_of dirs
  pub free : IsFree dirs serial
  pub least : (t : ℕ) → 1 ≤ t → t < serial → IsFree dirs t → ⊥
