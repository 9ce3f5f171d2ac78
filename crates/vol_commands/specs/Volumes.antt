-- The volume of a run: that in the file that the run names, or, where it names none, an empty one of 202 sectors and
-- 16 slots (`docs/USING.md`, "Options of `run`"). `open_for_run` of `sandbox_runs` promises `IsOpenFor` or `IsRefusedFor`, each with a
-- case for a run that names a file and one for a run that names none.
use Rattle.std.specs.Prelude.{◌≡◌, ◌⊎◌, ◌↔◌, ◌<◌, ℕ, false, Option, Some, None}
use Rattle.std.specs.Borrow.{Bor}
use Rattle.vol_sector.specs.Disk.{Image, Disk, Leaves, counted}
use Rattle.vol_sector.specs.Fault.{is_device}
use Rattle.vol_sector.specs.declared.fault.Refused.{Refused}
use Rattle.vol_sector.specs.declared.fault.VolumeFault.{VolumeFault}
use Rattle.vol_sector.specs.declared.fault.VolumeFault.TheVariants as fault
use Rattle.vol_tree.specs.declared.superblock.Superblock.{Superblock}
use Rattle.vol_tree.specs.Tree.{Tree}
use Rattle.vol_tree.specs.Stands.{StandsAs, empty_tree}
use Rattle.vol_tree.specs.Fresh.{fresh, IsNoneOrEmpty}
use Rattle.vol_tree.specs.Opened.{Opened}
use Rattle.vol_tree.specs.Opening.{StandsOn, HoldsOn}
use Rattle.sandbox_args.specs.Request.{Text}
use Rattle.vol_commands.specs.Doing.{HoldsNothing, RefusedBy}

-- the numbers of the volume of a run that names none
abbrev pub fresh_numbers : Superblock
fresh_numbers = fresh 202 16

-- Why an empty volume isn't made and opened: the device has too few sectors, or failed, or memory was refused.
abbrev pub FreshRefusedBy : VolumeFault → ℕ → Type 0
FreshRefusedBy fault.NotAVolume size = ⊥
FreshRefusedBy fault.Version size = ⊥
FreshRefusedBy (fault.Damaged damage) size = ⊥
FreshRefusedBy fault.Device size = Unit {0}
FreshRefusedBy fault.TooSmall size = size < 202
FreshRefusedBy fault.Upgraded size = ⊥
FreshRefusedBy fault.Geometry size = ⊥
FreshRefusedBy fault.Memory size = Unit {0}

module _ {D : Type 0} (is_honest : D → Type 0) (disk : D → Disk) (sectors_on failures : D → ℕ) where
  -- A volume that works, on a device that was made so by operations of which none failed, and each crash leaves its tree.
  pub record Works (device : D) (v : Opened D) : Type 0 where
    pub works : v.failed ≡ false
    pub lasts : is_honest device → (c : Image) → (disk v.device).may_leave c → StandsAs c v.numbers v.tree
    pub honest : is_honest device ↔ is_honest v.device
    pub size : sectors_on v.device ≡ sectors_on device
    pub none_failed : failures v.device ≡ failures device

  -- What reads give of the device stands for the tree. At any moment a crash leaves what it could leave before, or this tree.
  pub record IsOpen (device : D) (v : Opened D) : Type 0 where
    pub stands : is_honest device → StandsOn (sectors_on device) (disk device).seen v.numbers v.tree
    pub working : Works device v
    pub crash : is_honest device → Leaves (disk device) (disk v.device) (λ c. StandsAs c v.numbers v.tree)

  -- The device was made an empty volume. At any moment a crash leaves what it could leave before, no volume, or the empty one.
  pub record IsFresh (device : D) (v : Opened D) : Type 0 where
    pub numbers : is_honest device → v.numbers ≡ fresh_numbers
    pub empty : is_honest device → v.tree ≡ empty_tree 16
    pub working : Works device v
    pub crash : is_honest device → Leaves (disk device) (disk v.device) (IsNoneOrEmpty fresh_numbers)

  abbrev pub IsOpenFor : Option (Bor Text) → D → Opened D → Type 0
  IsOpenFor (Some file) device v = IsOpen device v
  IsOpenFor None device v = IsFresh device v

  -- what a stop while it is opened may leave beside what it could leave before
  abbrev pub LeftByOpening : Option (Bor Text) → Opened D → Image → Type 0
  LeftByOpening (Some file) v c = StandsAs c v.numbers v.tree
  LeftByOpening None v c = IsNoneOrEmpty fresh_numbers c

  -- The volume is refused, with 33 where an operation failed. What stands for a tree stands for it still. What is no volume
  -- of a known version isn't written to, nor is one whose first sector or log header is wrong; else these stay, with the
  -- content.
  pub record IsRefused (device : D) (refused : Refused D) : Type 0 where
    pub why : is_honest device → RefusedBy refused.fault (sectors_on device) (disk device).seen
    pub crash : (v : Superblock) (T : Tree) → is_honest device → StandsOn (sectors_on device) (disk device).seen v T → Leaves (disk device) (disk refused.device) (λ c. StandsAs c v T)
    pub unwritten : is_honest device → (refused.fault ≡ fault.NotAVolume) ⊎ (refused.fault ≡ fault.Version) → Leaves (disk device) (disk refused.device) (λ c. ⊥)
    pub untouched : is_honest device → HoldsNothing (sectors_on device) (disk device).seen → Leaves (disk device) (disk refused.device) (λ c. ⊥)
    pub installs : (v : Superblock) (m : Image) → is_honest device → HoldsOn (sectors_on device) (disk device).seen v m → Leaves (disk device) (disk refused.device) (λ c. HoldsOn (sectors_on device) c v m)
    pub honest : is_honest device ↔ is_honest refused.device
    pub size : sectors_on refused.device ≡ sectors_on device
    pub failed : failures refused.device ≡ counted (is_device refused.fault) (failures device)

  -- No empty volume was made, or it wasn't opened: with 33 where an operation failed. A device with too few sectors is as
  -- it was.
  pub record IsFreshRefused (device : D) (refused : Refused D) : Type 0 where
    pub why : is_honest device → FreshRefusedBy refused.fault (sectors_on device)
    pub crash : is_honest device → Leaves (disk device) (disk refused.device) (IsNoneOrEmpty fresh_numbers)
    pub untouched : refused.fault ≡ fault.TooSmall → refused.device ≡ device
    pub honest : is_honest device ↔ is_honest refused.device
    pub size : sectors_on refused.device ≡ sectors_on device
    pub failed : failures refused.device ≡ counted (is_device refused.fault) (failures device)

  abbrev pub IsRefusedFor : Option (Bor Text) → D → Refused D → Type 0
  IsRefusedFor (Some file) device refused = IsRefused device refused
  IsRefusedFor None device refused = IsFreshRefused device refused
