-- Lists of sector numbers: what stands in one, and when all are different and in a range (`docs/VOLUME.md`, "Sectors").
-- `Alloc::from_named` cites `ListsNumber` and `ArePlaces`, and laws of `vol_body` cite `AreDistinct` for the sectors
-- that a file names.
use Rattle.std.specs.Prelude.{◌≡◌, ◌≢◌, ◌≤◌, ◌<◌, ℕ, List, length, slice_index}

-- the number stands in the list
abbrev pub ListsNumber : List ℕ → ℕ → Type 0
ListsNumber numbers n = (k : ℕ) × (k < length numbers) × (slice_index numbers k ≡ n)

-- no number stands twice
abbrev pub AreDistinct : List ℕ → Type 0
AreDistinct numbers = (j k : ℕ) → j < k → k < length numbers → slice_index numbers j ≢ slice_index numbers k

-- numbers of the range, all different
pub record ArePlaces (first end : ℕ) (numbers : List ℕ) : Type 0 where
  pub from : (k : ℕ) → k < length numbers → first ≤ slice_index numbers k
  pub below : (k : ℕ) → k < length numbers → slice_index numbers k < end
  pub distinct : AreDistinct numbers
