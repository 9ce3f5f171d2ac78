-- What a write and a new size do to the bytes of a file, as plain lists without any sector (`docs/VOLUME.md`,
-- "The tree"). At Ok, by the contracts of `write_at` and `set_size`, a file that kept the rules has these bytes, and
-- `vol_tree` defines its `written` and `resized` by them.
use Rattle.std.specs.Prelude.{◌-◌, ◌+◌, ◌++◌, ℕ, List, [], ◌∷◌, length, take, drop, replicate}

-- the bytes with zeros after them, up to a length
abbrev pub zero_extended : ℕ → List ℕ → List ℕ
zero_extended size bytes = bytes ++ replicate (size - length bytes) 0

-- the bytes, cut or with zeros after them
abbrev pub resized_bytes : ℕ → List ℕ → List ℕ
resized_bytes size bytes = take size (zero_extended size bytes)

-- new bytes at an offset, a gap before them as zeros; no bytes change nothing
abbrev pub written_bytes : List ℕ → ℕ → List ℕ → List ℕ
written_bytes old offset [] = old
written_bytes old offset (byte ∷ bytes) = take offset (zero_extended offset old) ++ (byte ∷ bytes) ++ drop (offset + length (byte ∷ bytes)) old
