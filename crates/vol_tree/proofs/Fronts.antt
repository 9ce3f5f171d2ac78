-- The numbers of a volume, where they were refused.
use Rattle.std.proofs.Common.{◌≡◌, ◌⊎◌, ◌≤◌, ◌<◌, ◌++◌, ℕ, List, take, drop, inl, inr, ⊎_elim, Result, Err, false, refl, ap, subst, arith}
use Rattle.byteorder.specs.Endian.{little_number, little_bytes}
use Rattle.vol_inode.specs.declared.version.Version.{Version}
use Rattle.vol_inode.specs.declared.version.Version.TheVariants.{One, Two, Four}
use Rattle.vol_sector.specs.Disk.{Image}
use Rattle.vol_sector.specs.Fault.{is_device, IsDamage}
use Rattle.vol_sector.proofs.Damages.{damage_not_device, other_than}
use Rattle.vol_sector.specs.declared.fault.Damage.{Damage}
use Rattle.vol_sector.specs.declared.fault.VolumeFault.{VolumeFault}
use Rattle.vol_sector.specs.declared.fault.VolumeFault.TheVariants as faults
use Rattle.vol_tree.specs.declared.superblock.Superblock.{Superblock}
use Rattle.vol_tree.specs.Superblock.{HasRanges, superblock, version_number, IsNoVersion}
use Rattle.vol_tree.specs.Tree.{Tree}
use Rattle.vol_tree.proofs.Refusals.{same_error}
use Rattle.vol_tree.specs.Opening.{StandsOn, NoVolumeOn, HasNoVersion, BeginsRight, IsDamaged, IsPast}

-- how many sectors the device has
pub not_few : {X : Type 0} (n size : ℕ) → n ≡ size → 137 ≤ n → size < 137 → X
not_few n size is enough few = absurd (omega arith)

pub not_enough : {X : Type 0} (n size sectors : ℕ) → n ≡ size → n < sectors → sectors ≤ size → X
not_enough n size sectors is less room = absurd (omega arith)

pub none_not_later : {X : Type 0} → (faults.NotAVolume ≡ faults.Version) ⊎ IsDamage faults.NotAVolume → X
none_not_later is = absurd (⊎_elim (λ version. cc) (λ damaged. damaged) is)

pub damaged_not_front : {X : Type 0} {damage : Damage} → (faults.Damaged damage ≡ faults.NotAVolume) ⊎ (faults.Damaged damage ≡ faults.Version) → X
damaged_not_front is = absurd (⊎_elim (λ none. cc) (λ version. cc) is)

known_version : (version : Version) (rest : List ℕ) → IsNoVersion (little_number 4 (little_bytes 4 (version_number version) ++ rest)) → ⊥
known_version One rest unknown = unknown.0 refl
known_version Two rest unknown = unknown.1 refl
known_version Four rest unknown = unknown.2 refl

-- an image that begins with the numbers of a volume
pub begins_right : (size : ℕ) (image : Image) (v : Superblock) → 137 ≤ size → image 0 ≡ superblock v → BeginsRight size image
begins_right size image v room front = record {
  volume = λ none. ⊎_elim (λ few. omega arith) (λ other. other (ap (take 8) front)) none;
  version = λ unknown. known_version v.version (drop 12 (superblock v)) (subst (λ (b : List ℕ). IsNoVersion (little_number 4 (drop 8 b))) front unknown);
}

-- what is refused as damaged
pub damaged_alone : {T X : Type 0} (x : VolumeFault) → IsDamage x → (◌≡◌ {A = Result T VolumeFault} (Err x) (Err faults.NotAVolume)) ⊎ (◌≡◌ {A = Result T VolumeFault} (Err x) (Err faults.Version)) → X
damaged_alone x damaged is =
    ⊎_elim (λ none. other_than x faults.NotAVolume (same_error x faults.NotAVolume none) (λ other. other) damaged)
    (λ version. other_than x faults.Version (same_error x faults.Version version) (λ other. other) damaged) is

-- what the first sector is refused as
pub front_not_device : (x : VolumeFault) → (x ≡ faults.NotAVolume) ⊎ ((x ≡ faults.Version) ⊎ IsDamage x) → is_device x ≡ false
front_not_device x is = ⊎_elim (λ none. (λ i. is_device (none i))) (λ other. ⊎_elim (λ version. (λ i. is_device (version i))) (λ damaged. damage_not_device x damaged) other) is

pub or_device_last : (x : VolumeFault) → (x ≡ faults.NotAVolume) ⊎ ((x ≡ faults.Version) ⊎ IsDamage x) → (x ≡ faults.NotAVolume) ⊎ ((x ≡ faults.Version) ⊎ (IsDamage x ⊎ (x ≡ faults.Device)))
or_device_last x is = ⊎_elim (λ none. inl none) (λ other. inr (⊎_elim (λ version. inl version) (λ damaged. inr (inl damaged)) other)) is

pub or_memory_last : (x : VolumeFault) → (x ≡ faults.NotAVolume) ⊎ ((x ≡ faults.Version) ⊎ (IsDamage x ⊎ (x ≡ faults.Device)))
    → (x ≡ faults.NotAVolume) ⊎ ((x ≡ faults.Version) ⊎ (IsDamage x ⊎ ((x ≡ faults.Device) ⊎ (x ≡ faults.Memory))))
or_memory_last x is =
    ⊎_elim (λ none. inl none) (λ other. inr (⊎_elim (λ version. inl version) (λ rest. inr (⊎_elim (λ damaged. inl damaged) (λ device. inr (inl device)) rest)) other)) is

-- what is refused later is a volume of a known version
pub not_the_front : {X : Type 0} (x : VolumeFault) → IsDamage x ⊎ ((x ≡ faults.Device) ⊎ (x ≡ faults.Memory)) → (x ≡ faults.NotAVolume) ⊎ (x ≡ faults.Version) → X
not_the_front x named front =
    absurd (⊎_elim (λ damaged. ⊎_elim (λ none. other_than x faults.NotAVolume none (λ no. no) damaged) (λ version. other_than x faults.Version version (λ no. no) damaged) front)
    (λ other. ⊎_elim (λ device. ⊎_elim (λ none. cc) (λ version. cc) front) (λ memory. ⊎_elim (λ none. cc) (λ version. cc) front) other) named)

-- what stands for a tree is refused only as the device's or the memory's
pub stands_unrefused : (size : ℕ) (image : Image) (v : Superblock) (T : Tree) (x : VolumeFault) → StandsOn size image v T → (x ≡ faults.NotAVolume → NoVolumeOn size image) → (x ≡ faults.Version → HasNoVersion size image)
    → (IsDamage x → IsDamaged size image) → (x ≡ faults.NotAVolume) ⊎ ((x ≡ faults.Version) ⊎ (IsDamage x ⊎ ((x ≡ faults.Device) ⊎ (x ≡ faults.Memory)))) → (x ≡ faults.Device) ⊎ (x ≡ faults.Memory)
stands_unrefused size image v T x on none version damaged named =
    let right = begins_right size image v (omega (arith, on.stands.ranges.least, on.room)) on.stands.front in
    ⊎_elim (λ is. absurd (right.volume (none is)))
    (λ other. ⊎_elim (λ is. absurd (right.version (version is).version)) (λ rest. ⊎_elim (λ is. absurd ((damaged is).none v T on)) (λ last. last) rest) other) named

pub device_not_front : {X : Type 0} → (faults.Device ≡ faults.NotAVolume) ⊎ ((faults.Device ≡ faults.Version) ⊎ IsDamage faults.Device) → X
device_not_front is = absurd (⊎_elim (λ none. cc) (λ other. ⊎_elim (λ version. cc) (λ damaged. damaged) other) is)

-- what is refused after the numbers isn't refused for them
pub not_the_numbers : {X : Type 0} (x : VolumeFault) → IsDamage x ⊎ ((x ≡ faults.Device) ⊎ (x ≡ faults.Memory)) → (x ≡ faults.Geometry) ⊎ (x ≡ faults.TooSmall) → X
not_the_numbers x named numbers =
    absurd (⊎_elim (λ damaged. ⊎_elim (λ geometry. other_than x faults.Geometry geometry (λ no. no) damaged) (λ small. other_than x faults.TooSmall small (λ no. no) damaged) numbers)
    (λ other. ⊎_elim (λ device. ⊎_elim (λ geometry. cc) (λ small. cc) numbers) (λ memory. ⊎_elim (λ geometry. cc) (λ small. cc) numbers) other) named)

-- past the volume that was found there are none of its sectors
pub past_front : (size : ℕ) (honest : Type 0) (image : Image) (v : Superblock) (end : ℕ) → HasRanges v → v.sectors ≤ size → (honest → image 0 ≡ superblock v) → IsPast size honest image end → v.sectors ≤ end
past_front size honest image v end ranges room front (inl past) = omega (arith, room, past)
past_front size honest image v end ranges room front (inr past) = past.1 v ranges (front past.0)
