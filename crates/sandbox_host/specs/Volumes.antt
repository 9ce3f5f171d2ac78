-- The volume of a guest: a fresh one of 202 sectors and 16 slots, or that of sectors that a host in C hands in. For
-- either `Origin`, `IsVolume` says what is opened and `RefusesVolume` why it isn't.
use Rattle.std.specs.Prelude.{◌≡◌, ◌≤◌, ◌<◌, ◌==◌, ℕ, Bool, List, length, Option, Some, None, true, false, if◌then◌else◌}
use Rattle.vol_sector.specs.Disk.{Image}
use Rattle.vol_sector.specs.Record.{image_of}
use Rattle.vol_sector.specs.declared.fault.VolumeFault.{VolumeFault}
use Rattle.vol_sector.specs.declared.fault.VolumeFault.TheVariants as fault
use Rattle.vol_tree.specs.Stands.{StandsAs, empty_tree}
use Rattle.vol_tree.specs.Fresh.{fresh}
use Rattle.vol_tree.specs.Opening.{StandsOn, NoVolumeOn, HasNoVersion, IsDamaged}
use Rattle.sandbox_host.specs.HostTypes.{HostVolume, disk_of, size_of}
use Rattle.sandbox_host.specs.declared.volumes.VolumeSource.{VolumeSource}
use Rattle.sandbox_host.specs.declared.volumes.Origin.{Origin}
use Rattle.sandbox_host.specs.declared.volumes.Origin.TheVariants.{Fresh, Sectors}

abbrev pub origin_of : VolumeSource → Option Origin
origin_of s = if s.kind == 0 then Some Fresh else (if s.kind == 1 then Some (Sectors s.sectors false false) else (if s.kind == 2 then Some (Sectors s.sectors true false)
    else (if s.kind == 5 then Some (Sectors s.sectors false true) else (if s.kind == 6 then Some (Sectors s.sectors true true) else None))))

-- how many sectors a host may hand in, for a volume that is huge or not
abbrev pub most_sectors : (huge : Bool) → ℕ
most_sectors false = 65536
most_sectors true = 16777216

abbrev pub is_huge : Origin → Bool
is_huge Fresh = false
is_huge (Sectors sectors recorded huge) = huge

-- A volume that works, and each crash leaves its tree.
pub record Works (v : HostVolume) : Type 0 where
  pub works : v.failed ≡ false
  pub lasts : (c : Image) → (disk_of v.device).may_leave c → StandsAs c v.numbers v.tree

-- the empty volume, on a device that has no sector more
pub record IsNew (v : HostVolume) : Type 0 where
  pub numbers : v.numbers ≡ fresh 202 16
  pub tree : v.tree ≡ empty_tree 16
  pub size : size_of v.device ≡ 202
  pub working : Works v

-- What these sectors stand for, on a device that has as many. Each image that a crash may have left since they were handed in
-- stands for it, too.
pub record IsIn (huge : Bool) (sectors : List (List ℕ)) (v : HostVolume) : Type 0 where
  pub few : length sectors ≤ most_sectors huge
  pub stands : StandsOn (length sectors) (image_of sectors) v.numbers v.tree
  pub size : size_of v.device ≡ length sectors
  pub working : Works v
  pub since : (c : Image) → (disk_of v.device).left_since 0 c → StandsAs c v.numbers v.tree

-- Such a volume, on a device that began with these sectors, and that records what is done just where a record was asked for.
pub record IsOpened (sectors : List (List ℕ)) (recorded huge : Bool) (v : HostVolume) : Type 0 where
  pub is_in : IsIn huge sectors v
  pub began : v.device.history.first ≡ sectors
  pub is_recorded : v.device.is_recorded ≡ recorded

abbrev pub IsVolume : Origin → HostVolume → Type 0
IsVolume Fresh v = IsNew v
IsVolume (Sectors sectors recorded huge) v = IsOpened sectors.now recorded huge v

-- Why the volume of these sectors isn't opened.
abbrev pub RefusesSectors : (huge : Bool) → List (List ℕ) → VolumeFault → Type 0
RefusesSectors huge sectors fault.NotAVolume = NoVolumeOn (length sectors) (image_of sectors)
RefusesSectors huge sectors fault.Version = HasNoVersion (length sectors) (image_of sectors)
RefusesSectors huge sectors (fault.Damaged damage) = IsDamaged (length sectors) (image_of sectors)
RefusesSectors huge sectors fault.Device = ⊥
RefusesSectors huge sectors fault.TooSmall = ⊥
RefusesSectors huge sectors fault.Upgraded = ⊥
RefusesSectors huge sectors fault.Geometry = most_sectors huge < length sectors
RefusesSectors huge sectors fault.Memory = Unit {0}

abbrev pub RefusesVolume : Origin → VolumeFault → Type 0
RefusesVolume Fresh f = f ≡ fault.Memory
RefusesVolume (Sectors sectors recorded huge) f = RefusesSectors huge sectors.now f
