-- Memory as a list of bytes (section 4.2.8), and numbers in it. `bytes_at` and `written` are defined for every address;
-- whether the range is inside memory is said where they are cited.
use Rattle.std.specs.Prelude.{ℕ, zero, suc, ◌+◌, ◌*◌, ◌/◌, ◌%◌, List, [], ◌∷◌, ◌++◌, ◌-◌, length, replicate, take, drop}

-- bytes as a number, the lowest first (section 4.3.1)
abbrev pub from_bytes : List ℕ → ℕ
from_bytes [] = 0
from_bytes (b ∷ bs) = b + 256 * from_bytes bs

-- this many low bytes of a number, the lowest first
abbrev pub to_bytes : ℕ → ℕ → List ℕ
to_bytes zero x = []
to_bytes (suc k) x = x % 256 ∷ to_bytes k (x / 256)

-- n bytes from an address
abbrev pub bytes_at : List ℕ → ℕ → ℕ → List ℕ
bytes_at memory a n = take n (drop a memory)

-- memory with these bytes from an address on
abbrev pub written : List ℕ → ℕ → List ℕ → List ℕ
written memory a bs = take a memory ++ (bs ++ drop (a + length bs) memory)

-- these bytes and zeros behind them, up to a size
abbrev pub filled : ℕ → List ℕ → List ℕ
filled size bytes = bytes ++ replicate (size - length bytes) 0

-- memory as it is shown: its bytes, and how many of the first of them can be lent
abbrev pub ShownMemory : Type 0
ShownMemory = record { bytes : List ℕ; lent : ℕ }
