-- What a guest cannot reach stays as it is (`README.md`, "What is proved"). `Confines` says so of runs over worlds, and
-- `ConfinesHost` of runs over a host whose calls are those of worlds, where its device keeps its model.
use Rattle.std.specs.Prelude.{◌≡◌, ◌<◌, ℕ, List, ◌++◌, Some, Ok, Bool}
use Rattle.wasm_store.specs.declared.call.HostCall.{HostCall}
use Rattle.wasm_store.specs.declared.call.Errno.{Errno}
use Rattle.wasm_store.specs.declared.call.Answer.{Answer}
use Rattle.wasm_steps.specs.Configuration.{Instance, Configuration}
use Rattle.wasm_steps.specs.Steps.{CallsOf, Reach}
use Rattle.vol_tree.specs.Tree.{Tree, Path, Name, Entry as TreeEntry, entry, lookup, Leads, IsAt, IsTree, IsDirectory}
use Rattle.path_walk.specs.Paths.{Reached, Found, Missing, resolved}
use Rattle.wasi_fd.specs.declared.descriptor.Descriptor.TheVariants.{Entry}
use Rattle.wasi_fd.specs.declared.descriptor.EntryKind.TheVariants as kinds
use Rattle.wasi_fd.specs.declared.descriptor.Opened.{Opened}
use Rattle.wasi_fd.specs.Table.{Table}
use Rattle.wasi_bodies.specs.World.{World}
use Rattle.wasi_fd.specs.declared.table.TheConstants.{PLACES}
use Rattle.wasi_bodies.specs.Calls.{Calls}

-- Directories, by serial.
abbrev pub Tops : Type 1
Tops = ℕ → Type 0

-- an entry that is none of these directories and below none of them
pub record IsOutside (T : Tree) (tops : Tops) (serial : ℕ) : Type 0 where
  pub e : TreeEntry
  pub used : entry T serial ≡ Some e
  pub below_none : (top : ℕ) (path : Path) → tops top → Leads T top path serial → ⊥

-- the path begins with one that one of these directories had in the tree
abbrev pub IsWithin : Tree → Tops → Path → Type 0
IsWithin T tops path = (top : ℕ) × (below above : Path) × tops top × IsAt T above top × (path ≡ below ++ above)

-- the entry has exactly one path, which begins so
abbrev pub StandsWithin : Tree → Tops → Tree → ℕ → Type 0
StandsWithin T tops U serial = (path : Path) × IsAt U path serial × ((other : Path) → IsAt U other serial → other ≡ path) × IsWithin T tops path

-- where a walk ends: at an entry, or at a directory that lacks a name
abbrev pub walk_end : Reached → ℕ
walk_end (Found serial) = serial
walk_end (Missing parent name) = parent

-- From the tree T, with these directories preopened, to another tree and the descriptors then.
pub record IsConfined (T : Tree) (tops : Tops) (U : Tree) (table : Table) : Type 0 where
  -- the other tree is one
  pub tree : IsTree U
  -- an entry outside has the same parent, name, kind and bytes
  pub same : (serial : ℕ) → IsOutside T tops serial → entry U serial ≡ entry T serial
  -- and the same path
  pub paths : (serial : ℕ) (path : Path) → IsOutside T tops serial → IsAt T path serial → IsAt U path serial
  -- a directory outside gains and loses no entry
  pub children : (serial : ℕ) (name : Name) → IsOutside T tops serial → lookup U serial name ≡ lookup T serial name
  -- what a descriptor names, and what a walk from it reaches, is within
  pub descriptors : (fd : ℕ) (o : Opened) → table fd ≡ Some (Entry o) → StandsWithin T tops U o.serial
  pub walks : (fd : ℕ) (o : Opened) (wants : Bool) (names : List Name) (reached : Reached) → table fd ≡ Some (Entry o)
      → resolved U o.serial wants names ≡ Ok reached → StandsWithin T tops U (walk_end reached)

-- the serials of the entries that are open
abbrev pub named_by : Table → Tops
named_by table serial = (fd : ℕ) × (o : Opened) × (table fd ≡ Some (Entry o)) × (o.serial ≡ serial)

-- A world as a session begins: each entry that is open is a directory.
pub record HasOnlyDirectoriesOpen (w : World) : Type 0 where
  pub tree : IsTree w.tree
  pub directories : (fd : ℕ) (o : Opened) → w.table fd ≡ Some (Entry o) → IsDirectory w.tree o.serial × (o.kind ≡ kinds.Directory)
  pub few : (fd : ℕ) (o : Opened) → w.table fd ≡ Some (Entry o) → fd < PLACES

-- Whatever steps a guest takes, it stays confined to the directories that were open when it began.
abbrev pub Confines : Type 0
Confines = (i : Instance) (w w' : World) (c c' : Configuration) (answers : List (HostCall × Errno)) → HasOnlyDirectoriesOpen w
    → Reach World Calls i w c answers w' c' → IsConfined w.tree (named_by w.table) w'.tree w'.table

-- ---- the same over a host that is more than a world: a device, readers and writers

-- What the host shows has one tree and one table, and where its device keeps its model each of its calls is that call of
-- a world that it shows, and the device keeps it.
pub record IsHostOf {H : Type 0} (CallsH : CallsOf H) (shows : H → World → Type 0) (honest : H → Type 0) : Type 0 where
  pub tree : (h : H) (v w : World) → shows h v → shows h w → v.tree ≡ w.tree
  pub table : (h : H) (v w : World) → shows h v → shows h w → v.table ≡ w.table
  pub answers : (h h' : H) (memory memory' : List ℕ) (used : ℕ) (call : HostCall) (args : List ℕ) (answer : Answer) → honest h → CallsH h memory used call args h' memory' answer
      → honest h' × ((w w' : World) × shows h w × shows h' w' × Calls w memory used call args w' memory' answer)

abbrev pub ConfinesHost : {H : Type 0} → CallsOf H → (H → World → Type 0) → (H → Type 0) → Type 0
ConfinesHost {H} CallsH shows honest = (i : Instance) (h h' : H) (w w' : World) (c c' : Configuration) (answers : List (HostCall × Errno)) → IsHostOf CallsH shows honest
    → honest h → shows h w → HasOnlyDirectoriesOpen w → Reach H CallsH i h c answers h' c' → shows h' w' → IsConfined w.tree (named_by w.table) w'.tree w'.table
