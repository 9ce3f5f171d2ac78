-- The key by which a name is found in memory: the directory's serial, the name, and zeros up to 259 bytes. `lookup`
-- (`docs/VOLUME.md`, "The tree") searches for it; an `IsPlain` name can be read back from its key, since it has no zero
-- of its own.
use Rattle.std.specs.Prelude.{◌≤◌, ◌-◌, ℕ, List, ◌++◌, length, replicate}
use Rattle.std.specs.List.{Contains}
use Rattle.byteorder.specs.Endian.{big_bytes}

-- the directory's serial in four bytes, the name, and zeros up to 259 bytes
abbrev pub key_of : ℕ → List ℕ → List ℕ
key_of parent name = big_bytes 4 parent ++ (name ++ replicate (255 - length name) 0)

-- a name that a key can be told by: at most 255 bytes, none of them zero
pub record IsPlain (name : List ℕ) : Type 0 where
  pub short : length name ≤ 255
  pub no_zero : Contains name 0 → ⊥
