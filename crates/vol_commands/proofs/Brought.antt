-- A stream brought into the directory of a path.
use Rattle.std.proofs.Common.{◌≡◌, inr, ℕ, false, List, Option, Ok, refl, subst}
use Rattle.vol_sector.specs.Disk.{Disk, Leaves}
use Rattle.vol_tree.specs.declared.superblock.Superblock.{Superblock}
use Rattle.vol_tree.specs.Tree.{Tree}
use Rattle.vol_tree.specs.Stands.{StandsAs}
use Rattle.vol_tree.specs.Opened.{Opened, geometry}
use Rattle.path_walk.specs.Walk.{Asked}
use Rattle.vol_tar.specs.Import.{IsPartOfImport}
use Rattle.vol_commands.specs.Importing.{IsPartOfBringing}
use Rattle.vol_commands.specs.Tasks.{ReflectsAny, directory_named}
use Rattle.vol_tar.proofs.Moments.{any_after, leaves_more}

-- a volume is opened, and then something is done with it
pub opened_then : (a : Disk) (v : Superblock) (these : Tree → Type 0) (b d : Disk) (T : Tree) → these T → Leaves a b (λ c. StandsAs c v T) → Leaves b d (ReflectsAny b v these) → Leaves a d (ReflectsAny a v these)
opened_then a v these b d T is opened next =
    any_after a v these b d v these refl (λ U part. part) (leaves_more a b (λ c. StandsAs c v T) (ReflectsAny a v these) (λ m stands. inr (T, is, stands)) opened) next

module _ {D : Type 0} (honest : D → Type 0) (disk : D → Disk) (size failures : D → ℕ) (goes_on : ℕ → D → D → Type 0) (a b c : Opened D) (path : List ℕ) (directory : ℕ) (given : Option (List ℕ)) (asked : Asked honest disk size failures goes_on a b false) (is : honest a.device → directory_named a.tree path ≡ Ok directory) where
  pub part_left : (honest b.device → Leaves (disk b.device) (disk c.device) (ReflectsAny (disk b.device) b.numbers (IsPartOfImport (geometry b.numbers) b.tree directory given)))
      → honest a.device → Leaves (disk a.device) (disk c.device) (ReflectsAny (disk a.device) a.numbers (IsPartOfBringing a.numbers a.tree path given))
  part_left crash h =
      any_after (disk a.device) a.numbers (IsPartOfBringing a.numbers a.tree path given) (disk b.device) (disk c.device) b.numbers (IsPartOfImport (geometry b.numbers) b.tree directory given) asked.kept.numbers
      (λ U part. inr (directory, is h, subst (λ (T : Tree). IsPartOfImport (geometry a.numbers) T directory given U) (asked.tree h) (subst (λ (v : Superblock). IsPartOfImport (geometry v) b.tree directory given U) asked.kept.numbers part)))
      (leaves_more (disk a.device) (disk b.device) (λ x. ⊥) (ReflectsAny (disk a.device) a.numbers (IsPartOfBringing a.numbers a.tree path given)) (λ x none. absurd none) (asked.crash h))
      (crash (asked.kept.honest.0 h))
