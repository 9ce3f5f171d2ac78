-- What reading the slots of a volume finds, and the rules that it checks at each. `Entries` grows slot by slot
-- (`AddsSlot`) to `HaveRead`; with `AreWithin` and `HaveTree`, and no sector named twice, that makes the `HasParts` of
-- an open volume.
use Rattle.std.specs.Prelude.{◌≡◌, ◌≢◌, ◌+◌, ◌≤◌, ◌<◌, ℕ, Bool, true, false, List, [], ◌∷◌, ◌++◌, take, map, get_or, Option, Some, None}
use Rattle.std.specs.List.{sum_by, flat_map}
use Rattle.vol_sector.specs.Disk.{Image}
use Rattle.vol_sector.specs.declared.device.Device.{Ghosts}
use Rattle.vol_log.specs.Log.{log_sectors, has_failed}
use Rattle.vol_log.specs.declared.log.Log.{Log}
use Rattle.vol_inode.specs.declared.entry.Entry.{Entry}
use Rattle.vol_inode.specs.Entry.{IsEntry, name_of}
use Rattle.vol_inode.specs.Space.{need_of}
use Rattle.vol_body.specs.Survey.{sectors_named, AreInside, IsTrimmed}
use Rattle.vol_dirs.specs.declared.dirs.Dirs.{Dirs}
use Rattle.vol_dirs.specs.Names.{Names, IsInSlot, Shows}
use Rattle.vol_alloc.specs.declared.sectors.Alloc.{Alloc}
use Rattle.vol_tree.specs.declared.superblock.Superblock.{Superblock}
use Rattle.vol_tree.specs.declared.reading.Entries.{Entries}
use Rattle.vol_tree.specs.Superblock.{HasRanges}
use Rattle.vol_tree.specs.Stands.{slot}
use Rattle.vol_tree.specs.Space.{space}
use Rattle.vol_tree.specs.Clauses.{slots_in, tree_in}
use Rattle.vol_tree.specs.Opened.{data_sectors}
use Rattle.vol_tree.specs.internal.Parts.{IsContent, AreTaken}
use Rattle.vol_tree.specs.internal.Climbs.{AllLeadUp, AllLeadUpSoon, StandInDirectories}
use Rattle.vol_tree.specs.internal.Replacing.{kind_is_directory}
use Rattle.vol_log.specs.declared.layout.TheConstants.{FIRST_AFTER_LOG}
use Rattle.vol_dirs.specs.Slots.{slot_sector}

-- The slots may be read: the volume's numbers are in their ranges, its sectors are on the disk, and the log works.
pub record CanRead {D : Type 0} {g : Ghosts D} (log : Log D g) (v : Superblock) : Type 0 where
  pub there : v.sectors ≤ log_sectors log
  pub ranges : HasRanges v
  pub working : has_failed log ≡ false

-- what the slot at this place holds
abbrev pub held_at : Image → Superblock → ℕ → Option Entry
held_at content v s = get_or (slots_in content v.slots) s None

-- the directory that the slot's entry is in, 0 for none
abbrev pub parent_in : Option Entry → ℕ
parent_in None = 0
parent_in (Some e) = e.parent

abbrev pub directory_in : Option Entry → Bool
directory_in None = false
directory_in (Some e) = kind_is_directory e.kind

-- the sectors that the slot's entry names
abbrev pub named_in : Image → Option Entry → List ℕ
named_in content None = []
named_in content (Some e) = sectors_named content e

-- the sectors that it needs
abbrev pub reserved_in : Option Entry → ℕ
reserved_in None = 0
reserved_in (Some e) = need_of e.size

-- Only the root has no parent; and no slot before holds an entry with this name in the directory.
pub record IsPlaced (content : Image) (v : Superblock) (s : ℕ) (e : Entry) : Type 0 where
  pub top : s ≡ 0 → e.parent ≡ 0
  pub below : s ≢ 0 → e.parent ≢ 0
  pub first : e.parent ≢ 0 → (t : ℕ) → IsInSlot v.version content s e.parent (name_of e) t → ⊥

-- the same, where the names of the slots before are held
pub record IsNew (dirs : Dirs) (serial : ℕ) (e : Entry) : Type 0 where
  pub top : serial ≡ 1 → e.parent ≡ 0
  pub below : serial ≢ 1 → e.parent ≢ 0
  pub first : e.parent ≢ 0 → (t : ℕ) → Names dirs e.parent (name_of e) t → ⊥

-- the slot keeps the rules that it shows, by itself and with the names of those before
pub record IsRight (content : Image) (v : Superblock) (s : ℕ) (o : Option Entry) : Type 0 where
  pub bytes : content (slot_sector (s + 1)) ≡ slot o
  pub entry : (e : Entry) → o ≡ Some e → IsEntry v.version e
  pub placed : (e : Entry) → o ≡ Some e → IsPlaced content v s e
  pub trimmed : (e : Entry) → o ≡ Some e → IsTrimmed content e

-- only names of these first slots are held
abbrev pub AreBelow : Dirs → ℕ → Type 0
AreBelow dirs count = (p : ℕ) (n : List ℕ) (s : ℕ) → Names dirs p n s → s ≤ count

-- what reading one slot more adds
pub record AddsSlot (content : Image) (o : Option Entry) (old new : Entries) : Type 0 where
  pub named : new.named.items ≡ old.named.items ++ named_in content o
  pub parents : new.parents.items ≡ old.parents.items ++ parent_in o ∷ []
  pub directories : new.directories.items ≡ old.directories.items ++ directory_in o ∷ []
  pub reserved : new.reserved ≡ old.reserved + reserved_in o

-- there are data sectors for all that is named and needed so far
pub record AreWithin (v : Superblock) (found : Entries) : Type 0 where
  pub inside : AreInside (FIRST_AFTER_LOG + v.slots) v.sectors found.named.items
  pub room : found.reserved ≤ data_sectors v

-- there are data sectors for this slot too
pub record FitIn (content : Image) (v : Superblock) (o : Option Entry) (found : Entries) : Type 0 where
  pub inside : AreInside (FIRST_AFTER_LOG + v.slots) v.sectors (found.named.items ++ named_in content o)
  pub room : found.reserved + reserved_in o ≤ data_sectors v

-- what the first slots gave
pub record HaveRead (content : Image) (v : Superblock) (count : ℕ) (found : Entries) : Type 0 where
  pub named : found.named.items ≡ flat_map (named_in content) (take count (slots_in content v.slots))
  pub parents : found.parents.items ≡ map parent_in (take count (slots_in content v.slots))
  pub directories : found.directories.items ≡ map directory_in (take count (slots_in content v.slots))
  pub reserved : found.reserved ≡ sum_by reserved_in (take count (slots_in content v.slots))
  pub right : (s : ℕ) → s < count → IsRight content v s (held_at content v s)

-- The root is a directory, and all entries stand in directories that lead up to it.
pub record HaveTree (found : Entries) : Type 0 where
  pub top : get_or found.directories.items 0 false ≡ true
  pub stand : StandInDirectories found.parents.items found.directories.items
  pub lead : AllLeadUp found.parents.items

-- the same, in no more steps than there are slots
pub record HaveTreeSoon (found : Entries) : Type 0 where
  pub top : get_or found.directories.items 0 false ≡ true
  pub stand : StandInDirectories found.parents.items found.directories.items
  pub lead : AllLeadUpSoon found.parents.items

-- what is kept in memory of a volume with this content
pub record HasParts (content : Image) (v : Superblock) (dirs : Dirs) (sectors : Alloc) (needed : ℕ) : Type 0 where
  pub volume : IsContent content v
  pub shows : Shows v.version content v.slots dirs
  pub taken : AreTaken content v (slots_in content v.slots) sectors
  pub reserved : needed ≡ space (tree_in content v)
