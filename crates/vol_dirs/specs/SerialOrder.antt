-- What callers see of a `SerialOrder`, by which `Dirs` keeps names and children (`docs/VOLUME.md`, "The tree"). `Names`
-- speaks by `keys_of`, and the clauses of `insert` and `remove` say what they add to it and take from it.
use Rattle.std.specs.Prelude.{◌++◌, ℕ, List}
use Rattle.vol_dirs.specs.Serials.{key_at, keys_in, IsAbsentIn, IsHeldIn}
use Rattle.vol_dirs.specs.declared.serial_order.SerialOrder.{SerialOrder}

-- the serials, each list in the order of keys
abbrev pub serials_of : {n : ℕ} → SerialOrder n → List ℕ
serials_of o = o.long.items ++ o.late.items

-- the keys with their serials
abbrev pub keys_of : {n : ℕ} → SerialOrder n → List (List ℕ × ℕ)
keys_of o = keys_in o.keys.items (serials_of o)

-- the key of a serial, with it
abbrev pub key_with : {n : ℕ} → SerialOrder n → ℕ → List ℕ × ℕ
key_with o serial = key_at o.keys.items serial

-- for how many serials there is room
abbrev pub room_of : {n : ℕ} → SerialOrder n → ℕ
room_of o = o.slots

-- no key is held with this serial
abbrev pub IsAbsent : {n : ℕ} → SerialOrder n → ℕ → Type 0
IsAbsent o serial = IsAbsentIn serial (serials_of o)

-- a key is held with this serial
abbrev pub IsHeld : {n : ℕ} → SerialOrder n → ℕ → Type 0
IsHeld o serial = IsHeldIn serial (serials_of o)
