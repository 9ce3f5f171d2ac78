-- Opening a volume for a task.
use Rattle.std.proofs.Common.{◌≡◌, ◌⊎◌, ⊎_elim, inl, ℕ, List, Option, refl, sym, subst}
use Rattle.vol_sector.specs.Disk.{Image}
use Rattle.vol_sector.specs.declared.fault.VolumeFault.{VolumeFault}
use Rattle.vol_sector.specs.declared.fault.VolumeFault.TheVariants as fault
use Rattle.vol_tree.specs.declared.superblock.Superblock.{Superblock}
use Rattle.vol_tree.specs.Tree.{Tree}
use Rattle.vol_sector.specs.Fault.{IsDamage}
use Rattle.vol_sector.specs.declared.fault.Damage.{Damage}
use Rattle.vol_tree.specs.Opening.{NoVolumeOn, HasNoVersion, IsDamaged}
use Rattle.sandbox_args.specs.declared.request.Task.{Task}
use Rattle.sandbox_args.specs.declared.request.Task.TheVariants.{List as Ls, ListAs as LsAs, Get, Put, PutWhole, Check, Upgrade, Stat, Change as Changing}
use Rattle.sandbox_args.specs.declared.request.Change.{Change}
use Rattle.sandbox_args.specs.declared.request.Change.TheVariants.{MakeDirectory, Move, Remove, RemoveAll}
use Rattle.vol_commands.specs.Changes.{IsPartOfChange}
use Rattle.vol_commands.specs.Doing.{IsPartOf, RefusedBy}

-- a change that hasn't begun leaves the tree
pub none_is_part : (change : Change) (T : Tree) → IsPartOfChange T change T
none_is_part (MakeDirectory path) T = inl refl
none_is_part (Move from to) T = inl refl
none_is_part (Remove path) T = inl refl
none_is_part (RemoveAll path) T = inl refl

-- and so does a task
pub whole_is_part : (task : Task) (v : Superblock) (T : Tree) (given : Option (List ℕ)) → IsPartOf task v T given T
whole_is_part (Ls path) v T given = refl
whole_is_part (LsAs path form) v T given = refl
whole_is_part (Get path) v T given = refl
whole_is_part (Put path) v T given = inl refl
whole_is_part (PutWhole path) v T given = inl (inl refl)
whole_is_part Check v T given = refl
whole_is_part (Upgrade huge) v T given = refl
whole_is_part (Stat path) v T given = refl
whole_is_part (Changing change) v T given = none_is_part change T

-- a damage is one of some sector and rule
pub damage_is : (f : VolumeFault) → IsDamage f → (damage : Damage) × (f ≡ fault.Damaged damage)
damage_is fault.NotAVolume is = absurd is
damage_is fault.Version is = absurd is
damage_is (fault.Damaged damage) is = (damage, refl)
damage_is fault.Device is = absurd is
damage_is fault.TooSmall is = absurd is
damage_is fault.Upgraded is = absurd is
damage_is fault.Geometry is = absurd is
damage_is fault.Memory is = absurd is

-- each refusal has its rule
pub refused_by : (f : VolumeFault) (size : ℕ) (seen : Image) → (f ≡ fault.NotAVolume → NoVolumeOn size seen) → (f ≡ fault.Version → HasNoVersion size seen) → (IsDamage f → IsDamaged size seen)
    → (f ≡ fault.NotAVolume) ⊎ ((f ≡ fault.Version) ⊎ (IsDamage f ⊎ ((f ≡ fault.Device) ⊎ (f ≡ fault.Memory)))) → RefusedBy f size seen
refused_by f size seen none version damaged named =
    let at = λ (x : VolumeFault) (is : f ≡ x) (why : RefusedBy x size seen). subst (λ (y : VolumeFault). RefusedBy y size seen) (sym is) why in
    ⊎_elim (λ is. at fault.NotAVolume is (none is))
    (λ rest. ⊎_elim (λ is. at fault.Version is (version is))
    (λ rest. ⊎_elim (λ is. let some = damage_is f is in at (fault.Damaged some.0) some.1 (damaged is))
    (λ rest. ⊎_elim (λ is. at fault.Device is tt) (λ is. at fault.Memory is tt) rest) rest) rest) named
