-- `HoldsEntry`: a list of keys with serials holds an entry with this parent, name and serial (`docs/VOLUME.md`,
-- "The tree"). `Names` is this for the keys of `Dirs`; the list of children that `Dirs` keeps as well stands in its
-- invariant alone (`internal/Listing`).
use Rattle.std.specs.Prelude.{◌<◌, ◌^◌, ℕ, List}
use Rattle.std.specs.List.{Contains}
use Rattle.vol_dirs.specs.Key.{key_of, IsPlain}

-- the keys hold an entry with this parent, name and serial
pub record HoldsEntry (keys : List (List ℕ × ℕ)) (parent : ℕ) (name : List ℕ) (serial : ℕ) : Type 0 where
  pub narrow : parent < 2 ^ 32
  pub plain : IsPlain name
  pub held : Contains keys (key_of parent name, serial)
