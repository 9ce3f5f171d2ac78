-- What the removal of an entry with all below it does to the map from paths
-- (`crates/vol_tree/specs/PathLaws.antt`). The law `removed_tree_takes_all_below` says it of `without`, which is
-- defined on slots and not on paths.
use Rattle.std.specs.Prelude.{◌↔◌, ℕ, IsSome}
use Rattle.vol_tree.specs.Tree.{Tree, Path, Node, IsTree, entry}
use Rattle.vol_tree.specs.PathLaws.{IsBelow, Maps}
use Rattle.vol_commands.specs.Changes.{without}

-- The paths of the entry and of all below it are taken away, and nothing else changes.
abbrev pub TreeRemovedMap : Type 0
TreeRemovedMap = (T : Tree) (top : ℕ) → IsTree T → IsSome (entry T top)
    → (path : Path) (serial : ℕ) (node : Node) → Maps (without T top) path serial node ↔ (Maps T path serial node × (IsBelow T top serial → ⊥))
