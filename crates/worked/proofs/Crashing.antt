-- What reads give of a device that a crash left.
use Rattle.std.proofs.Common.{◌≡◌, ℕ, ◌<◌, List, ◌∙◌, ap, arith}
use Rattle.vol_sector.specs.Disk.{Image}
use Rattle.vol_sector.specs.Record.{newest}
use Rattle.vol_sector.specs.Crash.{crashed_image}
use Rattle.vol_sector.specs.Memory.{initial_image, record_of, room_of, sector_count, disk_of, IsUnused}
use Rattle.vol_sector.specs.declared.memory.MemoryDevice.{MemoryDevice}
use Rattle.vol_sector.specs.declared.record.Operation.{Operation}
use Rattle.vol_tree.specs.declared.superblock.Superblock.{Superblock}
use Rattle.vol_tree.specs.Tree.{Tree}
use Rattle.vol_tree.specs.Stands.{StandsAs}
use Rattle.vol_tree.specs.Opening.{StandsOn}

-- an image stands for its tree by the volume's own sectors
abbrev pub SectorsDecide : Type 0
SectorsDecide = (one other : Image) (v : Superblock) (T : Tree) → StandsAs one v T → ((k : ℕ) → k < v.sectors → other k ≡ one k) → StandsAs other v T

pub crashed_stands : SectorsDecide → (m left : MemoryDevice) (picks : List ℕ) (v : Superblock) (T : Tree) → IsUnused left (sector_count m) (room_of m) (crashed_image (initial_image m) (record_of m) picks)
    → StandsOn (sector_count m) (crashed_image (initial_image m) (record_of m) picks) v T → StandsOn (sector_count left) (disk_of left).seen v T
crashed_stands decide m left picks v T unused st = record {
  stands = decide (crashed_image (initial_image m) (record_of m) picks) (disk_of left).seen v T st.stands
      (λ k lt. ap (λ (ops : List Operation). newest k (initial_image left k) ops) unused.record_is ∙ unused.image_is k (omega (arith, lt, st.room)));
  room = omega (arith, st.room, unused.sectors_is);
}
