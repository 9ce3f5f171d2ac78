-- Which serials are in use, from the names.
use Rattle.std.proofs.Common.{is_some, ◌≡◌, ℕ, suc, true, false, Option, Some, None, get_or, refl, ap, arith}
use Rattle.vol_sector.specs.Disk.{Image}
use Rattle.vol_dirs.specs.declared.dirs.Dirs.{Dirs}
use Rattle.vol_dirs.specs.Names.{IsFree, Shows}
use Rattle.vol_tree.specs.declared.superblock.Superblock.{Superblock}
use Rattle.vol_tree.specs.Tree as tree
use Rattle.vol_tree.specs.Clauses.{tree_in}
use Rattle.vol_tree.specs.internal.Parts.{IsContent}
use Rattle.vol_tree.proofs.Finding.{free_is_none, none_is_free}

module _ (content : Image) (v : Superblock) (dirs : Dirs) (is : IsContent content v) (shows : Shows v.version content v.slots dirs) (s : ℕ) where
  pub used_there : (IsFree dirs (suc s) → ⊥) → is_some (get_or (tree_in content v) s None) ≡ true
  used_there used = go (get_or (tree_in content v) s None) refl
    where
      go : (o : Option tree.Entry) → get_or (tree_in content v) s None ≡ o → is_some o ≡ true
      go None at = absurd (used (none_is_free content v dirs is shows (suc s) at))
      go (Some e) at = refl

  pub free_there : IsFree dirs (suc s) → is_some (get_or (tree_in content v) s None) ≡ false
  free_there free = ap is_some (free_is_none content v dirs is shows (suc s) (omega arith) free (get_or (tree_in content v) s None) refl)
