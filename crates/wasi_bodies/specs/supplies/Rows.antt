-- Texts, clocks and random bytes (`args_*`, `environ_*`, `clock_*`, `random_get` of WASI preview 1;
-- `docs/DECISIONS.md`, "WASI calls"). The real-time clock gives the moment of the settings, and the monotonic one the
-- units of fuel that the guest has used.
use Rattle.std.specs.Prelude.{ℕ, ◌+◌, ◌*◌, ◌==◌, nat_le, List, [], ◌∷◌, ◌++◌, length, Ok, if◌then◌else◌, sum_by}
use Rattle.byteorder.specs.Endian.{little_bytes}
use Rattle.wasi_bodies.specs.supplies.Random.{has_left, next_bytes, after_next}
use Rattle.wasi_bodies.specs.World.{World}
use Rattle.wasi_bodies.specs.Checks.{Checked, ◌>>◌, guard, range, Done, with_result}
use Rattle.wasi_bodies.specs.Errnos.{AGAIN, INVAL}

-- the bytes of the texts, each with a NUL after it
abbrev pub ended_bytes : List (List ℕ) → ℕ
ended_bytes texts = sum_by (λ t. length t + 1) texts

-- the texts, a NUL after each
abbrev pub ended : List (List ℕ) → List ℕ
ended [] = []
ended (t ∷ texts) = t ++ 0 ∷ ended texts

-- a pointer to each text, the first of which stands at this place
abbrev pub pointers : ℕ → List (List ℕ) → List ℕ
pointers at [] = []
pointers at (t ∷ texts) = little_bytes 4 at ++ pointers (at + length t + 1) texts

-- args_sizes_get(count, size), environ_sizes_get(count, size)
abbrev pub sizes_get : List (List ℕ) → World → List ℕ → ℕ → ℕ → Checked Done
sizes_get texts w memory count size = do
  range memory count 4
  range memory size 4
  Ok (record { world = w; fills = []; results = (count, little_bytes 4 (length texts)) ∷ (size, little_bytes 4 (ended_bytes texts)) ∷ [] })

-- args_get(pointers, buffer), environ_get(pointers, buffer)
abbrev pub texts_get : List (List ℕ) → World → List ℕ → ℕ → ℕ → Checked Done
texts_get texts w memory at buffer = do
  range memory at (4 * length texts)
  range memory buffer (ended_bytes texts)
  Ok (record { world = w; fills = []; results = (at, pointers buffer texts) ∷ (buffer, ended texts) ∷ [] })

-- clock_res_get(id, result)
abbrev pub clock_res_get : World → List ℕ → ℕ → ℕ → Checked Done
clock_res_get w memory id result = do
  guard (nat_le id 1) INVAL
  range memory result 8
  Ok (with_result w result (little_bytes 8 1))

-- clock_time_get(id, precision, result): the moment, or the units used, this call's among them
abbrev pub clock_time_get : World → List ℕ → ℕ → ℕ → ℕ → Checked Done
clock_time_get w memory units id result = do
  guard (nat_le id 1) INVAL
  range memory result 8
  Ok (with_result w result (little_bytes 8 (if id == 0 then w.given.moment else units)))

-- random_get(buffer, length): of a list the next bytes, or none where fewer are left; of a generator one `fill_bytes`
abbrev pub random_get : World → List ℕ → ℕ → ℕ → Checked Done
random_get w memory buffer len = do
  range memory buffer len
  guard (has_left len w.random) AGAIN
  Ok (record { world = record w { random = after_next len w.random }; fills = (buffer, next_bytes len w.random) ∷ []; results = [] })
