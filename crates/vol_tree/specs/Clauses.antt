-- The clauses of a volume's calls (`docs/VOLUME.md`, "The tree"). Calls that change the tree, and `sync`, cite `Answers`, `ReflectsOr` and
-- `Keeps`; `lookup`, `list_next`, `stat` and `read` cite `Keeps` and one of `Tells`, `TellsStat` and `TellsBytes`; `upgrade` cites
-- `MayUpgrade`.
use Rattle.std.specs.Prelude.{◌≡◌, ◌≢◌, ◌⊎◌, ◌+◌, ◌*◌, ◌==◌, ◌≤◌, ◌++◌, ℕ, List, length, Bool, true, false, Option, Some, None, Result, Ok, Err, if◌then◌else◌, take, drop, map, slice_index}
use Rattle.std.specs.List.{range_with_len}
use Rattle.byteorder.specs.Endian.{little_number}
use Rattle.vol_sector.specs.Disk.{Image, Disk, Leaves}
use Rattle.vol_inode.specs.declared.entry.Entry.{Entry}
use Rattle.vol_inode.specs.declared.entry.Kind.TheVariants as kinds
use Rattle.vol_inode.specs.declared.version.Version.{Version}
use Rattle.vol_tree.specs.declared.superblock.Superblock.{Superblock}
use Rattle.vol_tree.specs.declared.errno.Errno.{Errno}
use Rattle.vol_tree.specs.declared.errno.Errno.TheVariants as errno
use Rattle.vol_tree.specs.Tree.{Tree}
use Rattle.vol_tree.specs.Stands.{Slots, tree_of, StandsAs}
use Rattle.vol_dirs.specs.Slots.{slot_sector}
use Rattle.vol_tree.specs.Opened.{ReflectsOr}

-- the entry that a sector spells, if it is used
abbrev pub entry_in : List ℕ → Entry
entry_in bytes = record {
  kind = if slice_index bytes 0 == 3 then kinds.Directory else kinds.File;
  name_length = slice_index bytes 1;
  parent = little_number 4 (drop 4 bytes);
  size = little_number 4 (drop 8 bytes);
  name = take 255 (drop 12 bytes);
  pointers = map (λ k. little_number 4 (drop (268 + 4 * k) bytes)) (range_with_len 0 61);
}

abbrev pub slot_in : List ℕ → Option Entry
slot_in bytes = if slice_index bytes 0 == 0 then None else Some (entry_in bytes)

abbrev pub slots_in : Image → ℕ → Slots
slots_in content slots = map (λ s. slot_in (content (slot_sector (s + 1)))) (range_with_len 0 slots)

-- the tree of a volume with these numbers
abbrev pub tree_in : Image → Superblock → Tree
tree_in content v = tree_of content (slots_in content v.slots)

-- the same numbers, with another version
abbrev pub raised : Version → Superblock → Superblock
raised to v = record v { version = to }

-- in an upgrade the image may also stand for this tree with the other version
abbrev pub MayUpgrade : Disk → Superblock → Version → Tree → Image → Type 0
MayUpgrade disk v to tree image = ReflectsOr disk v tree image ⊎ StandsAs image (raised to v) tree

abbrev pub is_io : {X : Type 0} → Result X Errno → Bool
is_io (Ok x) = false
is_io (Err errno.Exist) = false
is_io (Err errno.TooBig) = false
is_io (Err errno.BadText) = false
is_io (Err errno.Invalid) = false
is_io (Err errno.Io) = true
is_io (Err errno.IsDirectory) = false
is_io (Err errno.NameTooLong) = false
is_io (Err errno.NotFound) = false
is_io (Err errno.NoSpace) = false
is_io (Err errno.NotDirectory) = false
is_io (Err errno.NotEmpty) = false
is_io (Err errno.NotCapable) = false

-- A call that may change the tree: its definition's answer and tree; or 29, and the tree as it was.
abbrev pub Answers : {X : Type 0} → Result (Tree × X) Errno → Tree → Tree → Result X Errno → Type 0
Answers meant old new (Ok x) = meant ≡ Ok (new, x)
Answers meant old new (Err e) = (new ≡ old) × ((meant ≡ Err e) ⊎ (e ≡ errno.Io))

-- A call that is refused leaves nothing new on the disk, unless the device has failed.
abbrev pub LeavesAlone : {X : Type 0} → Disk → Disk → Result X Errno → Type 0
LeavesAlone old new (Ok x) = Unit {0}
LeavesAlone old new (Err e) = e ≢ errno.Io → Leaves old new (λ c. ⊥)

-- A call that only asks: the definition's answer, or 29.
abbrev pub Tells : {X : Type 0} → X → Tree → Tree → Result X Errno → Type 0
Tells meant old new (Ok x) = (x ≡ meant) × (new ≡ old)
Tells meant old new (Err e) = (e ≡ errno.Io) × (new ≡ old)

-- A call that reads bytes into a buffer: it says how many, and what stood after them in the buffer stays; or 29, and a
-- beginning of them may stand there.
abbrev pub TellsBytes : List ℕ → List ℕ → List ℕ → Tree → Tree → Result ℕ Errno → Type 0
TellsBytes meant before after old new (Ok n) = (n ≡ length meant) × (after ≡ meant ++ drop n before) × (new ≡ old)
TellsBytes meant before after old new (Err e) = (e ≡ errno.Io) × (new ≡ old) × ((n : ℕ) × (n ≤ length meant) × (after ≡ take n meant ++ drop n before))
