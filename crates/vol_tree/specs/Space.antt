-- The space that a tree needs: the sectors of its files' bytes, whether they were written or not, and the pointer
-- sectors that list these. A write, a new size and opening compare it with the data sectors that a volume has
-- (`docs/VOLUME.md`, "Space").
use Rattle.std.specs.Prelude.{ℕ, length, Option, Some, None}
use Rattle.std.specs.List.{sum_by}
use Rattle.vol_inode.specs.declared.version.Version.{Version}
use Rattle.vol_inode.specs.Space.{need_of}
use Rattle.vol_tree.specs.Tree.{Tree, Node, Directory, File, Entry}

abbrev pub size_of : Node → ℕ
size_of Directory = 0
size_of (File bytes) = length bytes

abbrev pub need_in : Option Entry → ℕ
need_in None = 0
need_in (Some e) = need_of (size_of e.node)

-- the sectors that a tree's files need
abbrev pub space : Tree → ℕ
space T = sum_by need_in T

-- the numbers of a volume that calls depend on
pub record Geometry : Type 0 where
  pub version : Version
  pub data_sectors : ℕ
