-- What formatting a device leaves, and how it ends (`docs/VOLUME.md`, "Formatting"). `Formats` is the contract of
-- `format_as`. `FormatsWhere` is that of `format_where`, which may be told to format only what doesn't begin as a volume
-- (`FormatsNew`).
use Rattle.std.specs.Prelude.{◌≡◌, ◌⊎◌, ◌≤◌, ◌<◌, ◌↔◌, ℕ, Bool, true, false, Result, Err, OnOk, IfErr, take}
use Rattle.vol_sector.specs.Disk.{Image, Disk, Leaves, counted}
use Rattle.vol_sector.specs.declared.fault.VolumeFault.TheVariants as fault
use Rattle.vol_inode.specs.declared.version.Version.{Version}
use Rattle.vol_tree.specs.declared.errno.Errno.TheVariants as errno
use Rattle.vol_tree.specs.Superblock.{HasRanges, magic}
use Rattle.vol_tree.specs.Stands.{StandsAs, empty_tree}
use Rattle.vol_tree.specs.Fresh.{fresh_as, IsNoneOrEmpty}
use Rattle.vol_commands.specs.declared.failure.Failure.{Failure}
use Rattle.vol_commands.specs.declared.failure.Failure.TheVariants.{Tree, Volume}
use Rattle.vol_commands.specs.Blame.{blames_device}

-- A device is made an empty volume of this version with these numbers. It is refused with 36 where they are out of their ranges, then
-- with 34 where it has fewer sectors, and else only with 33, where an operation failed. Where it isn't refused, each crash
-- leaves the empty volume; at any moment a crash leaves what it could leave before, or no volume, or the empty one.
pub record Formats {D : Type 0} (version : Version) (is_honest : D → Type 0) (disk : D → Disk) (sectors_on failures : D → ℕ) (device : D) (sectors slots : ℕ) (after : D) (done : Result (Unit {0}) Failure) : Type 0 where
  pub geometry : (HasRanges (fresh_as version sectors slots) → ⊥) → (done ≡ Err (Volume fault.Geometry)) × (after ≡ device)
  pub too_small : HasRanges (fresh_as version sectors slots) → sectors_on device < sectors → (done ≡ Err (Volume fault.TooSmall)) × (after ≡ device)
  pub otherwise : HasRanges (fresh_as version sectors slots) → sectors ≤ sectors_on device → IfErr done (λ f. f ≡ Volume fault.Device)
  pub empty : is_honest device → OnOk done ((c : Image) → (disk after).may_leave c → StandsAs c (fresh_as version sectors slots) (empty_tree slots))
  pub crash : is_honest device → Leaves (disk device) (disk after) (IsNoneOrEmpty (fresh_as version sectors slots))
  pub honest : is_honest device ↔ is_honest after
  pub size : sectors_on after ≡ sectors_on device
  pub failed : failures after ≡ counted (blames_device done) (failures device)

-- ---- only where no volume stands

-- the device has a first sector, which begins as that of a volume does, of whatever version
pub record BeginsAsVolume (size : ℕ) (seen : Image) : Type 0 where
  pub some : 0 < size
  pub begins : take 8 (seen 0) ≡ magic

module _ {D : Type 0} (is_honest : D → Type 0) (disk : D → Disk) (sectors_on failures : D → ℕ) where
  -- A device was looked at: nothing was written, and one operation failed or none.
  pub record LooksAt (before after : D) (failed : Bool) : Type 0 where
    pub seen : is_honest before → (disk after).seen ≡ (disk before).seen
    pub crash : is_honest before → Leaves (disk before) (disk after) (λ c. ⊥)
    pub honest : is_honest before ↔ is_honest after
    pub size : sectors_on after ≡ sectors_on before
    pub failed_so : failures after ≡ counted failed (failures before)

  -- A device was looked at, and failed (33); or begins as a volume, is refused with 20, and isn't written to; or doesn't, and
  -- is formatted as it is then (`Formats`).
  pub record FormatsNew (version : Version) (device : D) (sectors slots : ℕ) (after : D) (done : Result (Unit {0}) Failure) : Type 0 where
    pub looked : D
    pub failed : Bool
    pub looks : LooksAt device looked failed
    pub ends : ((failed ≡ true) × (done ≡ Err (Volume fault.Device)) × (after ≡ looked))
        ⊎ (((failed ≡ false) × (done ≡ Err (Tree errno.Exist)) × (after ≡ looked) × (is_honest device → BeginsAsVolume (sectors_on device) (disk device).seen))
        ⊎ ((failed ≡ false) × Formats version is_honest disk sectors_on failures looked sectors slots after done × (is_honest device → BeginsAsVolume (sectors_on device) (disk device).seen → ⊥)))

-- only where no volume stands, or wherever
abbrev pub FormatsWhere : Bool → Version → {D : Type 0} → (D → Type 0) → (D → Disk) → (D → ℕ) → (D → ℕ) → D → ℕ → ℕ → D → Result (Unit {0}) Failure → Type 0
FormatsWhere true version is_honest disk sectors_on failures device sectors slots after done = FormatsNew is_honest disk sectors_on failures version device sectors slots after done
FormatsWhere false version is_honest disk sectors_on failures device sectors slots after done = Formats version is_honest disk sectors_on failures device sectors slots after done
