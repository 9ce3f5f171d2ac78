-- What opening, formatting and making a volume hand back, a volume or a device, or a refusal with the device, and what becomes of
-- the device (`docs/VOLUME.md`, "What opening refuses" and "Formatting"). `IsOpened` and `IsNew` are of a volume, `IsRightly` and
-- `LeavesRefused` of a refusal, `KeepsDevice` is of both.
use Rattle.std.specs.Prelude.{◌≡◌, ◌⊎◌, ◌≤◌, ◌↔◌, ℕ, Bool, true, false, Result, Ok, Err}
use Rattle.vol_sector.specs.Disk.{Image, Disk, Leaves, counted}
use Rattle.vol_sector.specs.Fault.{is_device, IsDamage}
use Rattle.vol_sector.specs.declared.fault.Refused.{Refused}
use Rattle.vol_sector.specs.declared.fault.VolumeFault.TheVariants as fault
use Rattle.vol_tree.specs.declared.superblock.Superblock.{Superblock}
use Rattle.vol_tree.specs.Superblock.{HasRanges}
use Rattle.vol_tree.specs.Tree.{Tree}
use Rattle.vol_tree.specs.Stands.{StandsAs, empty_tree}
use Rattle.vol_tree.specs.Opened.{Opened}
use Rattle.vol_tree.specs.Opening.{StandsOn, HoldsOn, NoVolumeOn, HasNoVersion, IsDamaged}

-- the device of the volume, or the one that a refusal hands back
abbrev pub device_opened : {D : Type 0} → Result (Opened D) (Refused D) → D
device_opened (Ok v) = v.device
device_opened (Err refused) = refused.device

-- the device that was formatted, or the one that a refusal hands back
abbrev pub device_formatted : {D : Type 0} → Result D (Refused D) → D
device_formatted (Ok device) = device
device_formatted (Err refused) = refused.device

-- it is refused since the device failed
abbrev pub is_device_refused : {T D : Type 0} → Result T (Refused D) → Bool
is_device_refused (Ok x) = false
is_device_refused (Err refused) = is_device refused.fault

-- The device keeps its model or doesn't as before, and has its sectors; an operation failed only where that is blamed.
pub record KeepsDevice {D : Type 0} (is_honest : D → Type 0) (sectors_on failures_on : D → ℕ) (old new : D) (blamed : Bool) : Type 0 where
  pub honest : is_honest old ↔ is_honest new
  pub size : sectors_on new ≡ sectors_on old
  pub failures : failures_on new ≡ counted blamed (failures_on old)

module _ {D : Type 0} (is_honest : D → Type 0) (disk : D → Disk) (sectors_on : D → ℕ) (device : D) where
  -- What reads gave stands for the volume's tree, with its numbers. It works, and each crash leaves the tree.
  pub record IsOpened (v : Opened D) : Type 0 where
    pub stands : is_honest device → StandsOn (sectors_on device) (disk device).seen v.numbers v.tree
    pub working : v.failed ≡ false
    pub ranges : HasRanges v.numbers × (v.numbers.sectors ≤ sectors_on device)
    pub durable : is_honest device → (c : Image) → (disk v.device).may_leave c → StandsAs c v.numbers v.tree

  -- It is refused for what is wrong with what reads gave, or since the device failed or memory was refused.
  pub record IsRightly (refused : Refused D) : Type 0 where
    pub not_a_volume : is_honest device → refused.fault ≡ fault.NotAVolume → NoVolumeOn (sectors_on device) (disk device).seen
    pub version : is_honest device → refused.fault ≡ fault.Version → HasNoVersion (sectors_on device) (disk device).seen
    pub damaged : is_honest device → IsDamage refused.fault → IsDamaged (sectors_on device) (disk device).seen
    pub faults_named : (refused.fault ≡ fault.NotAVolume) ⊎ ((refused.fault ≡ fault.Version) ⊎ (IsDamage refused.fault ⊎ ((refused.fault ≡ fault.Device) ⊎ (refused.fault ≡ fault.Memory))))

  -- A refusal keeps the tree that reads give, so that another try finds it. Where the first sector or the log's header is wrong,
  -- nothing is written; else it leaves the first sector and the content as reads gave them.
  pub record LeavesRefused (refused : Refused D) : Type 0 where
    pub kept_tree : (v : Superblock) (T : Tree) → is_honest device → StandsOn (sectors_on device) (disk device).seen v T → StandsOn (sectors_on refused.device) (disk refused.device).seen v T
    pub unwritten : is_honest device → ((v : Superblock) (m : Image) → HoldsOn (sectors_on device) (disk device).seen v m → ⊥) → Leaves (disk device) (disk refused.device) (λ c. ⊥)
    pub installs : (v : Superblock) (m : Image) → is_honest device → HoldsOn (sectors_on device) (disk device).seen v m
        → HoldsOn (sectors_on device) (disk refused.device).seen v m × Leaves (disk device) (disk refused.device) (λ c. HoldsOn (sectors_on device) c v m)

  -- The volume is the empty one with those numbers. It works, and each crash leaves its tree.
  pub record IsNew (those : Superblock) (v : Opened D) : Type 0 where
    pub numbers : v.numbers ≡ those
    pub working : v.failed ≡ false
    pub empty : is_honest device → v.tree ≡ empty_tree those.slots
    pub durable : is_honest device → (c : Image) → (disk v.device).may_leave c → StandsAs c v.numbers v.tree
