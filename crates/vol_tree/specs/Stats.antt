-- What `stats` tells of a volume: its entries and slots, and the sectors that files need and that there are for them
-- (`docs/VOLUME.md`, "Space"). `needed` goes by the sizes of files, so fewer sectors may be taken than that.
use Rattle.std.specs.Prelude.{◌≡◌, ℕ}
use Rattle.std.specs.Option.{is_some}
use Rattle.std.specs.List.{count_by}
use Rattle.vol_tree.specs.declared.stats.Stats.{Stats}
use Rattle.vol_tree.specs.declared.superblock.Superblock.{Superblock}
use Rattle.vol_tree.specs.Tree.{Tree}
use Rattle.vol_tree.specs.Space.{space}
use Rattle.vol_tree.specs.Opened.{data_sectors}

-- how many entries a tree has, with the root
abbrev pub entries_of : Tree → ℕ
entries_of T = count_by (λ o. is_some o) T

-- the volume's entries and slots, the sum of what its files need, and the sectors that there are for them
pub record IsStats (T : Tree) (v : Superblock) (s : Stats) : Type 0 where
  pub entries : s.entries ≡ entries_of T
  pub slots : s.slots ≡ v.slots
  pub needed : s.needed ≡ space T
  pub sectors : s.sectors ≡ data_sectors v
