-- A file as a device: a crash leaves each sector, apart from the others, as some moment since the last sync that
-- succeeded had it (`docs/VOLUME.md`, "The device"). `kept` is the disk of a `FileDevice`, by the premise
-- `KeepsItsModel`, which nobody can show of a file.
use Rattle.std.specs.Prelude.{◌≡◌, ◌⊎◌, ◌<◌, ◌≤◌, ◌-◌, ℕ, List, [], ◌∷◌, length, take}
use Rattle.vol_sector.specs.Disk.{Image, Disk}
use Rattle.vol_sector.specs.Record.{image_of}
use Rattle.sandbox_device.specs.Ram.{Sectors}

-- the bytes that one of these has in this sector
abbrev pub IsIn : List Sectors → ℕ → List ℕ → Type 0
IsIn [] n bytes = ⊥
IsIn (sectors ∷ others) n bytes = (bytes ≡ image_of sectors n) ⊎ IsIn others n bytes

-- each sector has what one of these has in it
abbrev pub IsMixed : List Sectors → Image → Type 0
IsMixed moments c = (n : ℕ) → IsIn moments n (c n)

-- what was so at one of these times
abbrev pub IsMixedAt : List (List Sectors) → Image → Type 0
IsMixedAt [] c = ⊥
IsMixedAt (moments ∷ others) c = IsMixed moments c ⊎ IsMixedAt others c

-- Its sectors now, before each write that was tried since the last sync that succeeded, and at all times before an
-- operation, each the newest first.
abbrev pub kept : Sectors → List Sectors → List (List Sectors) → Disk
kept now unsynced times = record {
  seen = image_of now;
  may_leave = IsMixed (now ∷ unsynced);
  operation_count = length times;
  left_since = λ t. IsMixedAt ((now ∷ unsynced) ∷ take (length times - t) times);
}

-- there is a first sector, and it begins with these bytes
abbrev pub BeginsWith : List ℕ → Sectors → Type 0
BeginsWith bytes sectors = (0 < length sectors) × (take (length bytes) (image_of sectors 0) ≡ bytes)

-- what a volume of version 4 begins with: "WASMVOLU", and its version (`docs/VOLUME.md`, "Superblock")
abbrev pub version_4 : List ℕ
version_4 = 87 ∷ 65 ∷ 83 ∷ 77 ∷ 86 ∷ 79 ∷ 76 ∷ 85 ∷ 4 ∷ 0 ∷ 0 ∷ 0 ∷ []

-- It has no more sectors than this, or begins as a volume of version 4.
abbrev pub IsOfSize : ℕ → Sectors → Type 0
IsOfSize most sectors = length sectors ≤ most ⊎ BeginsWith version_4 sectors

-- The file keeps this model: what a crash leaves of it is what `kept` says. It is a premise, of which nothing is known:
-- what stands here can't be unfolded anywhere else, so nobody shows of a file that it is so, nor that it isn't.
pub KeepsItsModel : {F : Type 0} → F → Type 0
KeepsItsModel file = Unit {0}
