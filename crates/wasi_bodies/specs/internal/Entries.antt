-- What the bodies of calls say of descriptors and entries, with no word of a host.
use Rattle.std.specs.Prelude.{◌≡◌, ◌≤◌, IsTrue, ℕ, Bool, true, false, Result, Ok, Err, Some}
use Rattle.vol_inode.specs.declared.entry.Kind.{Kind}
use Rattle.vol_inode.specs.declared.entry.Kind.TheVariants as nodes
use Rattle.vol_tree.specs.Tree.{Tree, Entry as TreeEntry, entry}
use Rattle.vol_tree.specs.Calls.{is_directory, is_file_at}
use Rattle.vol_tree.specs.Opened.{Opened, IsSerial, geometry}
use Rattle.wasi_fd.specs.declared.descriptor.Descriptor.TheVariants.{Entry}
use Rattle.wasi_fd.specs.declared.descriptor.EntryKind.{EntryKind}
use Rattle.wasi_fd.specs.declared.descriptor.EntryKind.TheVariants as kinds
use Rattle.wasi_fd.specs.declared.descriptor.Opened.{Opened as OpenedEntry}
use Rattle.wasi_fd.specs.Table.{Table}
use Rattle.wasm_store.specs.declared.call.Errno.{Errno}
use Rattle.wasi_bodies.specs.Checks.{Refusals, any_kind, only_directories, no_directories, only_files, sized, no_streams}
use Rattle.wasi_bodies.specs.declared.checks.DescriptorKinds.{DescriptorKinds}
use Rattle.wasi_bodies.specs.declared.checks.DescriptorKinds.TheVariants as takes
use Rattle.wasi_bodies.specs.World.{World}

-- `filetype`
abbrev pub type_of_entry : Kind → ℕ
type_of_entry nodes.Directory = 3
type_of_entry nodes.File = 4

-- the number that a call answers
abbrev pub errno_of : {X : Type 0} → Result X Errno → ℕ
errno_of (Ok x) = 0
errno_of (Err e) = e.0

-- what a call refuses, by the kinds that it takes
abbrev pub refusals_of : DescriptorKinds → Refusals
refusals_of takes.Any = any_kind
refusals_of takes.Directories = only_directories
refusals_of takes.NoDirectories = no_directories
refusals_of takes.Files = only_files
refusals_of takes.Sized = sized
refusals_of takes.NoStreams = no_streams

-- each entry that is open was open before, at whatever position
abbrev pub NoMoreEntries : Table → Table → Type 0
NoMoreEntries old new = (fd : ℕ) (o : OpenedEntry) → new fd ≡ Some (Entry o) → (p : OpenedEntry) × (old fd ≡ Some (Entry p)) × (o.serial ≡ p.serial) × (o.kind ≡ p.kind)

-- the world with this volume
abbrev pub with_volume : {D : Type 0} → Opened D → World → World
with_volume v w = record w { volume = geometry v.numbers; tree = v.tree; volume_failed = v.failed }

abbrev pub is_directory_kind : EntryKind → Bool
is_directory_kind kinds.Directory = true
is_directory_kind kinds.File = false

-- the entry is there, and is what its descriptor says
pub record IsThere (T : Tree) (o : OpenedEntry) : Type 0 where
  pub e : TreeEntry
  pub used : entry T o.serial ≡ Some e
  pub kind : is_directory e.node ≡ is_directory_kind o.kind

-- so is each that is open
abbrev pub AreThere : Tree → Table → Type 0
AreThere T table = (fd : ℕ) (o : OpenedEntry) → table fd ≡ Some (Entry o) → IsThere T o

-- what is known of the entries that are open: their numbers on any device, and the entries where it keeps its model
pub record KnowsEntries {D : Type 0} (honest : D → Type 0) (v : Opened D) (table : Table) : Type 0 where
  pub numbers : (fd : ℕ) (o : OpenedEntry) → table fd ≡ Some (Entry o) → IsSerial v.numbers o.serial
  pub there : honest v.device → AreThere v.tree table

-- a number of the volume that is that of a file
pub record IsFileOf {D : Type 0} (honest : D → Type 0) (v : Opened D) (serial : ℕ) : Type 0 where
  pub first : 1 ≤ serial
  pub last : serial ≤ v.numbers.slots
  pub used : honest v.device → IsTrue (is_file_at v.tree serial)

-- the world with this table
abbrev pub with_table : Table → World → World
with_table table w = record w { table = table }
