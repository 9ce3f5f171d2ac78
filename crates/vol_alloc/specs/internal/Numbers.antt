-- `AreFree` says that numbers are those of free sectors, all different. The invariant of `Alloc` asks this of its list
-- of free sectors, and their count besides, so the list misses none.
use Rattle.std.specs.Prelude.{◌≡◌, ◌≤◌, ◌<◌, ◌-◌, ℕ, List, Bool, true, false, length, slice_index, slice_index_or}
use Rattle.vol_alloc.specs.Numbers.{AreDistinct}

-- numbers from the first one on whose flags aren't set, all different
pub record AreFree (first : ℕ) (taken : List Bool) (numbers : List ℕ) : Type 0 where
  pub from : (k : ℕ) → k < length numbers → first ≤ slice_index numbers k
  pub there : (k : ℕ) → k < length numbers → slice_index numbers k - first < length taken
  pub free : (k : ℕ) → k < length numbers → slice_index_or taken (slice_index numbers k - first) true ≡ false
  pub distinct : AreDistinct numbers
