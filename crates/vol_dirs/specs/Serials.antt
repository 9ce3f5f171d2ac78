-- Keys by their serials, and lists of serials (`docs/VOLUME.md`, "The tree"). `keys_in` is the list of keys with serials
-- that the contracts of `Dirs` speak of: a `SerialOrder` keeps each key where it is, and moves serials alone.
use Rattle.std.specs.Prelude.{◌≤◌, ◌<◌, ◌-◌, ℕ, List, [], length, map, slice_index_or}
use Rattle.std.specs.List.{Contains}

-- the key of a serial, with it
abbrev pub key_at : List (List ℕ) → ℕ → List ℕ × ℕ
key_at names serial = (slice_index_or names (serial - 1) [], serial)

-- the keys with their serials
abbrev pub keys_in : List (List ℕ) → List ℕ → List (List ℕ × ℕ)
keys_in names order = map (key_at names) order

-- each is the serial of a name
abbrev pub AreSerials : ℕ → List ℕ → Type 0
AreSerials slots order = (k : ℕ) → k < length order → (1 ≤ slice_index_or order k 0) × (slice_index_or order k 0 ≤ slots)

-- the serial is there
abbrev pub IsHeldIn : ℕ → List ℕ → Type 0
IsHeldIn serial order = Contains order serial

-- the serial isn't there
abbrev pub IsAbsentIn : ℕ → List ℕ → Type 0
IsAbsentIn serial order = Contains order serial → ⊥
