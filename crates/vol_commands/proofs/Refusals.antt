-- What is no volume of a known version holds nothing.
use Rattle.std.proofs.Common.{◌≡◌, ◌⊎◌, ℕ, inl, inr, ap, subst, take, arith}
use Rattle.vol_sector.specs.Disk.{Image}
use Rattle.vol_sector.specs.declared.fault.VolumeFault.{VolumeFault}
use Rattle.vol_sector.specs.declared.fault.VolumeFault.TheVariants as fault
use Rattle.vol_inode.specs.declared.version.Version.{Version}
use Rattle.vol_inode.specs.declared.version.Version.TheVariants.{One, Two, Four}
use Rattle.vol_tree.specs.Superblock.{IsNoVersion, version_number}
use Rattle.vol_tree.specs.Opening.{NoVolumeOn, HasNoVersion}
use Rattle.vol_tree.proofs.OneTree.{version_is}
use Rattle.vol_commands.specs.Doing.{HoldsNothing}

known : (v : Version) → IsNoVersion (version_number v) → ⊥
known One none = none.0 (omega arith)
known Two none = none.1 (omega arith)
known Four none = none.2 (omega arith)

no_volume : (size : ℕ) (image : Image) → NoVolumeOn size image → HoldsNothing size image
no_volume size image (inl few) v m holds = omega (arith, few, holds.room, holds.ranges.least)
no_volume size image (inr other) v m holds = other (ap (take 8) holds.front)

no_version : (size : ℕ) (image : Image) → HasNoVersion size image → HoldsNothing size image
no_version size image none v m holds = known v.version (subst IsNoVersion (version_is (image 0) v holds.front) none.version)

pub holds_nothing : (size : ℕ) (image : Image) (f : VolumeFault) → (f ≡ fault.NotAVolume → NoVolumeOn size image) → (f ≡ fault.Version → HasNoVersion size image) → (f ≡ fault.NotAVolume) ⊎ (f ≡ fault.Version) → HoldsNothing size image
holds_nothing size image f none version (inl is) = no_volume size image (none is)
holds_nothing size image f none version (inr is) = no_version size image (version is)
