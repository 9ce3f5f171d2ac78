-- An open volume as its callers see it, what each of its calls keeps, and what images of it stand for (`docs/VOLUME.md`, "The tree").
-- The clauses of its calls stand in `Clauses`.
use Rattle.std.specs.Prelude.{◌≡◌, ◌⊎◌, ◌+◌, ◌-◌, ◌≤◌, ◌↔◌, ℕ, Bool, true, false}
use Rattle.vol_sector.specs.Disk.{Image, Disk, counted}
use Rattle.vol_sector.specs.Past.{StillGoesOn}
use Rattle.vol_tree.specs.declared.superblock.Superblock.{Superblock}
use Rattle.vol_tree.specs.Space.{Geometry}
use Rattle.vol_tree.specs.Tree.{Tree}
use Rattle.vol_tree.specs.Stands.{StandsAs}
use Rattle.vol_log.specs.declared.layout.TheConstants.{FIRST_AFTER_LOG}

abbrev pub data_sectors : Superblock → ℕ
data_sectors v = v.sectors - (FIRST_AFTER_LOG + v.slots)

abbrev pub geometry : Superblock → Geometry
geometry v = record { version = v.version; data_sectors = data_sectors v }

-- ---- what callers see

-- a volume by its device, its numbers, its tree as reads give it, and whether it has failed
pub record Opened (D : Type 0) : Type 0 where
  pub device : D
  pub numbers : Superblock
  pub tree : Tree
  pub failed : Bool

-- a number that an entry of the volume can have
pub record IsSerial (numbers : Superblock) (serial : ℕ) : Type 0 where
  pub first : 1 ≤ serial
  pub last : serial ≤ numbers.slots

-- some image that a crash could leave stands for the same tree, both under the volume's numbers
pub record Reflects (disk : Disk) (v : Superblock) (image : Image) : Type 0 where
  pub earlier : Image
  pub could : disk.may_leave earlier
  pub tree : Tree
  pub stood : StandsAs earlier v tree
  pub stands : StandsAs image v tree

-- the image stands for a tree that a crash could leave, or for this one, under the volume's numbers
abbrev pub ReflectsOr : Disk → Superblock → Tree → Image → Type 0
ReflectsOr disk v tree image = Reflects disk v image ⊎ StandsAs image v tree

-- What each call keeps, on any device. It answers 29 exactly where the volume has failed then, by one operation that
-- failed, or had failed before, and then does no operation.
pub record Keeps {D : Type 0} (is_honest : D → Type 0) (sectors_on failures_on : D → ℕ) (old new : Opened D) (io : Bool) : Type 0 where
  pub numbers : new.numbers ≡ old.numbers
  pub failed : new.failed ≡ io
  pub failures : old.failed ≡ false → failures_on new.device ≡ counted io (failures_on old.device)
  pub idle : old.failed ≡ true → (new.device ≡ old.device) × (io ≡ true)
  pub honest : is_honest old.device ↔ is_honest new.device
  pub size : sectors_on new.device ≡ sectors_on old.device

-- What each call's device does, on any device: it goes on, and no sector past the volume's own is written. So what it goes on from
-- before the call, by `goes_on` of the trait `Device`, it goes on from after it.
abbrev pub GoesOn : {D : Type 0} → (ℕ → D → D → Type 0) → Opened D → Opened D → Type 0
GoesOn goes_on old new = (end : ℕ) → old.numbers.sectors ≤ end → StillGoesOn (goes_on end) old.device new.device
