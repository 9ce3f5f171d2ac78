-- The tree that an image of a disk stands for, and the rules of the format that such an image keeps (`docs/VOLUME.md`,
-- "Sectors"). `StandsAs` puts all together: the superblock, the log, the slots, their files, and the tree that they
-- make.
use Rattle.std.specs.Prelude.{◌≡◌, ◌≢◌, ◌+◌, ◌-◌, ◌≤◌, ◌<◌, ℕ, List, ◌∷◌, length, map, get_or, take, replicate, Option, Some, None}
use Rattle.std.specs.Option.{option_map}
use Rattle.vol_sector.specs.Disk.{Image}
use Rattle.vol_log.specs.Batch.{HasContent}
use Rattle.vol_inode.specs.declared.entry.Entry.{Entry}
use Rattle.vol_inode.specs.declared.entry.Kind.{Kind}
use Rattle.vol_inode.specs.declared.entry.Kind.TheVariants as kinds
use Rattle.vol_inode.specs.declared.version.Version.{Version}
use Rattle.vol_inode.specs.Entry.{IsEntry, name_of}
use Rattle.vol_inode.specs.Spelling.{spelling, unused}
use Rattle.vol_body.specs.Body.{BlockPosition, IsPosition, named, bytes_of, IsBody}
use Rattle.vol_tree.specs.declared.superblock.Superblock.{Superblock}
use Rattle.vol_tree.specs.Superblock.{superblock, HasRanges, magic}
use Rattle.vol_tree.specs.Tree as tree
use Rattle.vol_tree.specs.Tree.{Tree, Node, Directory, File, IsTree}
use Rattle.vol_tree.specs.Space.{space}
use Rattle.vol_log.specs.declared.layout.TheConstants.{FIRST_AFTER_LOG}
use Rattle.vol_dirs.specs.Slots.{slot_sector}

-- the slots of a volume: serial s + 1 stands at place s
abbrev pub Slots : Type 0
Slots = List (Option Entry)

-- the bytes of a slot
abbrev pub slot : Option Entry → List ℕ
slot None = unused
slot (Some e) = spelling e

-- The slots hold these entries, each of which keeps the rules that its own sector shows.
pub record Holds (content : Image) (version : Version) (slots : Slots) : Type 0 where
  pub bytes : (s : ℕ) → s < length slots → content (slot_sector (s + 1)) ≡ slot (get_or slots s None)
  pub entries : (s : ℕ) (e : Entry) → get_or slots s None ≡ Some e → IsEntry version e

-- ---- the tree of the entries

abbrev pub node_by : Kind → List ℕ → Node
node_by kinds.Directory bytes = Directory
node_by kinds.File bytes = File bytes

-- what is kept of an entry: its parent, its name, and for a file its bytes
abbrev pub entry_of : Image → Entry → tree.Entry
entry_of content e = record { parent = e.parent; name = name_of e; node = node_by e.kind (bytes_of content e) }

abbrev pub tree_of : Image → Slots → Tree
tree_of content slots = map (option_map (entry_of content)) slots

-- ---- the rules of a volume

-- The files' sectors: each file keeps the rules on its own; all that are named are data sectors; and no two entries name
-- the same one.
pub record KeepApart (content : Image) (v : Superblock) (slots : Slots) : Type 0 where
  pub bodies : (s : ℕ) (e : Entry) → get_or slots s None ≡ Some e → IsBody content e
  pub after_slots : (s : ℕ) (e : Entry) (p : BlockPosition) → get_or slots s None ≡ Some e → IsPosition p → named content e p ≢ 0 → FIRST_AFTER_LOG + v.slots ≤ named content e p
  pub there : (s : ℕ) (e : Entry) (p : BlockPosition) → get_or slots s None ≡ Some e → IsPosition p → named content e p < v.sectors
  pub apart : (s t : ℕ) (d e : Entry) (p q : BlockPosition) → get_or slots s None ≡ Some d → get_or slots t None ≡ Some e → IsPosition p → IsPosition q
      → named content d p ≢ 0 → named content d p ≡ named content e q → s ≡ t

-- With the log's images in their places, the content has these entries in its slots, and they make a tree whose files
-- have their space.
pub record IsVolume (content : Image) (v : Superblock) (slots : Slots) : Type 0 where
  pub count : length slots ≡ v.slots
  pub holds : Holds content v.version slots
  pub sectors : KeepApart content v slots
  pub tree : IsTree (tree_of content slots)
  pub space : space (tree_of content slots) ≤ v.sectors - (FIRST_AFTER_LOG + v.slots)

-- the image is a volume with these numbers, and this is its tree
pub record StandsAs (image : Image) (v : Superblock) (T : Tree) : Type 0 where
  pub front : image 0 ≡ superblock v
  pub ranges : HasRanges v
  pub content : Image
  pub log : HasContent v.sectors image content
  pub slots : Slots
  pub volume : IsVolume content v slots
  pub is : T ≡ tree_of content slots

-- the image is no volume: it begins otherwise
abbrev pub IsNoVolume : Image → Type 0
IsNoVolume image = take 8 (image 0) ≢ magic

-- the root and nothing else, in this many slots
abbrev pub empty_tree : ℕ → Tree
empty_tree slots = Some tree.root ∷ replicate (slots - 1) None
