-- How a directory and a name are read back from a key, and which bytes are a key. The invariant of `Dirs` asks `IsKey`
-- of each key that is held, so each of them is that of some directory and name.
use Rattle.std.specs.Prelude.{◌≡◌, ◌≤◌, ◌<◌, ◌^◌, ℕ, zero, suc, List, [], ◌∷◌, length, drop}
use Rattle.byteorder.specs.Endian.{big_number}
use Rattle.vol_dirs.specs.Key.{key_of}

-- the bytes before the first zero, which ends a name of less than 255 bytes
abbrev pub before_zero : List ℕ → List ℕ
before_zero [] = []
before_zero (zero ∷ bytes) = []
before_zero (suc n ∷ bytes) = suc n ∷ before_zero bytes

-- the directory and the name of a key
abbrev pub parent_in : List ℕ → ℕ
parent_in key = big_number 4 key

abbrev pub name_in : List ℕ → List ℕ
name_in key = before_zero (drop 4 key)

-- a directory and a name have this key
pub record IsKey (key : List ℕ) : Type 0 where
  pub narrow : parent_in key < 2 ^ 32
  pub short : length (name_in key) ≤ 255
  pub spelled : key_of (parent_in key) (name_in key) ≡ key
