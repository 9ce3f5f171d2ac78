-- Buffers of a call, as the code has them: spans (`list_of`) for the pairs of the rows. `usable` is what `find_buffers`
-- checks, and `AreUsable` is what the bodies after it may rely on.
use Rattle.std.specs.Prelude.{◌≡◌, ℕ, ◌+◌, ◌^◌, ◌<◌, ◌≤◌, nat_lt, true, List, length, get_or, map, Ok}
use Rattle.std.specs.List.{list_all}
use Rattle.vol_body.specs.declared.source.MemorySpan.{MemorySpan}
use Rattle.wasi_bodies.specs.Checks.{Checked, Buffer, ◌>>=◌, ◌>>◌, guard, buffers, range, total, is_inside}
use Rattle.wasi_bodies.specs.Errnos.{FAULT, INVAL}

abbrev pub pair_of : MemorySpan → Buffer
pair_of b = (b.pointer, b.len)

abbrev pub list_of : List MemorySpan → List Buffer
list_of bs = map pair_of bs

-- few enough bytes, all of them in memory
abbrev pub fit : List ℕ → List Buffer → Checked (List Buffer)
fit memory all = do
  guard (nat_lt (total all) (2 ^ 32)) INVAL
  guard (list_all (is_inside memory) all) FAULT
  Ok all

-- what the checks say of the buffers, and of the place of the result
pub record AreUsable (memory : List ℕ) (all : List Buffer) (result : ℕ) : Type 0 where
  pub small : total all < 2 ^ 32
  pub inside : list_all (is_inside memory) all ≡ true
  pub room : result + 4 ≤ length memory

-- the buffers of a call, where they and the place of its result can be used
abbrev pub usable : List ℕ → ℕ → ℕ → ℕ → Checked (List Buffer)
usable memory iovs count result = do
  bs ← buffers memory iovs count
  range memory result 4
  Ok bs

-- all of them end in this many bytes
abbrev pub EndWithin : ℕ → List MemorySpan → Type 0
EndWithin n bs = (i : ℕ) → i < length bs → (get_or bs i (record { pointer = 0; len = 0 })).pointer + (get_or bs i (record { pointer = 0; len = 0 })).len ≤ n
