-- Which sectors of a device a task doesn't write: those past the volume (`docs/VOLUME.md`, "Sectors"). Each public call
-- promises that the device goes on from the one that it was given (`goes_on` of the trait `Device`), with a bound that is
-- not below the end of the volume: `KeepsWithin` of the volume that stands there, `FormatsWithin` of the one that is made.
use Rattle.std.specs.Prelude.{◌⊎◌, ◌≤◌, ℕ, Option, Some, None}
use Rattle.std.specs.Borrow.{Bor}
use Rattle.vol_sector.specs.Disk.{Disk}
use Rattle.vol_sector.specs.Past.{StillGoesOn}
use Rattle.vol_tree.specs.Opening.{IsPast}
use Rattle.sandbox_args.specs.Request.{Text}

-- with each bound that no sector of the volume is past
abbrev pub KeepsWithin : {D : Type 0} → (D → Type 0) → (D → Disk) → (D → ℕ) → (ℕ → D → D → Type 0) → D → D → Type 0
KeepsWithin is_honest disk sectors_on goes_on device left = (end : ℕ) → IsPast (sectors_on device) (is_honest device) (disk device).seen end → StillGoesOn (goes_on end) device left

-- Past this number there is no sector of the volume of so many sectors that the device is made, and none of another that it
-- may show in its place, where it doesn't keep its model.
abbrev pub IsPastNew : ℕ → Type 0 → ℕ → ℕ → Type 0
IsPastNew size honest sectors end = (sectors ≤ end) × (honest ⊎ (size ≤ end))

-- with each bound that no sector of the volume which it is made is past
abbrev pub FormatsWithin : {D : Type 0} → (D → Type 0) → (D → ℕ) → (ℕ → D → D → Type 0) → ℕ → D → D → Type 0
FormatsWithin is_honest sectors_on goes_on sectors device left = (end : ℕ) → IsPastNew (sectors_on device) (is_honest device) sectors end → StillGoesOn (goes_on end) device left

-- of the volume of a run: that of the file that it names, or the fresh one
abbrev pub OpensWithin : {D : Type 0} → (D → Type 0) → (D → Disk) → (D → ℕ) → (ℕ → D → D → Type 0) → ℕ → Option (Bor Text) → D → D → Type 0
OpensWithin is_honest disk sectors_on goes_on sectors (Some file) device left = KeepsWithin is_honest disk sectors_on goes_on device left
OpensWithin is_honest disk sectors_on goes_on sectors None device left = FormatsWithin is_honest sectors_on goes_on sectors device left
