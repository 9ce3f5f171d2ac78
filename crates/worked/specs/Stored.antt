-- What a stop leaves of a volume in memory in which a file is stored (`docs/VOLUME.md`, "The tree"). `store` promises
-- `Lasts` at success, and at any moment, also inside a call that is refused, `IsFirstPart` with the trees of
-- `IsReached`.
use Rattle.std.specs.Prelude.{◌≡◌, ◌⊎◌, ℕ, List, [], Ok}
use Rattle.vol_sector.specs.Disk.{Image, Disk}
use Rattle.vol_sector.specs.Memory.{disk_of, sector_count}
use Rattle.vol_sector.specs.declared.memory.MemoryDevice.{MemoryDevice}
use Rattle.vol_tree.specs.declared.superblock.Superblock.{Superblock}
use Rattle.vol_tree.specs.Tree.{Tree, Name, File}
use Rattle.vol_tree.specs.Calls.{created, written}
use Rattle.vol_tree.specs.Stands.{StandsAs}
use Rattle.vol_tree.specs.Opening.{StandsOn}
use Rattle.vol_tree.specs.Opened.{Opened, Reflects, geometry}

-- whatever a crash leaves is the volume's tree, and it is opened again
abbrev pub Lasts : Opened MemoryDevice → Type 0
Lasts v = (c : Image) → (disk_of v.device).may_leave c → StandsOn (sector_count v.device) c v.numbers v.tree

-- The trees while a file is stored in the root: the one at first, that with an empty file, and that with its bytes.
abbrev pub IsReached : Opened MemoryDevice → Name → List ℕ → Tree → Type 0
IsReached v name bytes T = (T ≡ v.tree) ⊎ (((s : ℕ) × (created v.tree 1 name (File []) ≡ Ok (T, s)))
    ⊎ ((U : Tree) × (s : ℕ) × (created v.tree 1 name (File []) ≡ Ok (U, s)) × (written (geometry v.numbers) U s 0 bytes ≡ Ok T)))

-- The image stands for one of these trees, or for one that a crash could leave before.
abbrev pub IsFirstPart : Disk → Superblock → (Tree → Type 0) → Image → Type 0
IsFirstPart disk v Trees c = Reflects disk v c ⊎ ((T : Tree) × Trees T × StandsAs c v T)
