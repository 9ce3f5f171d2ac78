-- What a crash may leave after a task that a step stands before.
use Rattle.std.proofs.Common.{◌≡◌, ◌⊎◌, inl, inr, ⊎_elim, refl}
use Rattle.vol_sector.specs.Disk.{Image, Disk, Leaves}
use Rattle.vol_log.proofs.Moments.{leaves_same, leaves_then}
use Rattle.vol_inode.specs.declared.version.Version.{Version}
use Rattle.vol_tree.specs.Tree.{Tree}
use Rattle.vol_tree.specs.declared.superblock.Superblock.{Superblock}
use Rattle.vol_tree.specs.Stands.{StandsAs}
use Rattle.vol_tree.specs.Clauses.{MayUpgrade, raised}
use Rattle.vol_tar.specs.Import.{ReflectsAny}
use Rattle.vol_tar.proofs.Moments.{leaves_more, reflected}

module _ (a : Disk) (v : Superblock) (these : Tree → Type 0) where
  -- a step that leaves what was, or what stands for one of these, and then a task
  pub task_after : (b d : Disk) (T : Tree) (Q : Image → Type 0) → these T → Leaves a b (λ c. StandsAs c v T) → Leaves b d (λ c. ReflectsAny b v these c ⊎ Q c) → Leaves a d (λ c. ReflectsAny a v these c ⊎ Q c)
  task_after b d T Q is opened second =
      leaves_then a b d (ReflectsAny a v these) (λ c. ReflectsAny b v these c ⊎ Q c) (λ c. ReflectsAny a v these c ⊎ Q c) first second (λ m p. inl p) (λ m p. on m p)
    where
      first : Leaves a b (ReflectsAny a v these)
      first = leaves_then a a b (ReflectsAny a v these) (λ c. StandsAs c v T) (ReflectsAny a v these) (leaves_same a (ReflectsAny a v these)) opened (λ m p. p) (λ m stands. inr (T, is, stands))

      on : (m : Image) → ReflectsAny b v these m ⊎ Q m → ReflectsAny a v these m ⊎ Q m
      on m (inl (inl r)) = inl (reflected a v these r.earlier m r.tree (first.now r.earlier r.could) r.stood r.stands)
      on m (inl (inr now)) = inl (inr now)
      on m (inr q) = inr q

-- what an upgrade may leave
pub upgrade_any : (a b : Disk) (v : Superblock) (to : Version) (T : Tree) → Leaves a b (MayUpgrade a v to T) → Leaves a b (λ m. ReflectsAny a v (λ U. U ≡ T) m ⊎ StandsAs m (raised to v) T)
upgrade_any a b v to T first = leaves_more a b (MayUpgrade a v to T) (λ m. ReflectsAny a v (λ U. U ≡ T) m ⊎ StandsAs m (raised to v) T)
    (λ m may. ⊎_elim (λ old. inl (⊎_elim (λ was. inl was) (λ same. inr (T, refl, same)) old)) (λ up. inr up) may) first
