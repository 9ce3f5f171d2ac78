-- A disk in memory: each write lasts at once, where a device of `docs/VOLUME.md`, "The device", needs a sync for that.
-- So `held` lets a crash leave whole lists of sectors and mixes nothing, and the type `Sectors` serves the other
-- devices too.
use Rattle.std.specs.Prelude.{◌≡◌, ◌⊎◌, ◌-◌, ℕ, List, [], ◌∷◌, length, take}
use Rattle.std.specs.List.{flat_map}
use Rattle.vol_sector.specs.Disk.{Image, Disk}
use Rattle.vol_sector.specs.Record.{image_of}

-- the bytes of each sector
abbrev pub Sectors : Type 0
Sectors = List (List ℕ)

-- the bytes of all of them, one sector after the other
abbrev pub joined_sectors : Sectors → List ℕ
joined_sectors sectors = flat_map (λ sector. sector) sectors

-- one of these
abbrev pub IsOneOf : List Sectors → Image → Type 0
IsOneOf [] c = ⊥
IsOneOf (sectors ∷ others) c = (c ≡ image_of sectors) ⊎ IsOneOf others c

-- Its sectors now, and before each operation, the newest first. A crash leaves what they were then.
abbrev pub held : Sectors → List Sectors → Disk
held now before = record {
  seen = image_of now;
  may_leave = λ c. c ≡ image_of now;
  operation_count = length before;
  left_since = λ t. IsOneOf (now ∷ take (length before - t) before);
}
