-- Flags of slots and of blocks of 512 slots, which say that all slots in them are marked. The type `SlotMarks` keeps
-- `IsSummed`, so a search for the least unmarked slot passes over the blocks that are full.
use Rattle.std.specs.Prelude.{◌≡◌, ◌+◌, ◌*◌, ◌≤◌, ◌<◌, ℕ, List, Bool, true, false, length, slice_index_or}

-- each slot of the block is marked
abbrev pub IsBlockMarked : List Bool → ℕ → Type 0
IsBlockMarked flags block = (k : ℕ) → 512 * block ≤ k → k < 512 * block + 512 → k < length flags → slice_index_or flags k false ≡ true

-- There are blocks for all slots, and those that are said to be full have marked slots alone.
pub record IsSummed (flags full : List Bool) : Type 0 where
  pub enough : length flags ≤ 512 * length full
  pub marked : (block : ℕ) → slice_index_or full block false ≡ true → IsBlockMarked flags block

-- no slot before this one is unmarked
abbrev pub HasNoneBefore : List Bool → ℕ → Type 0
HasNoneBefore flags end = (k : ℕ) → k < end → k < length flags → slice_index_or flags k false ≡ true

abbrev pub AreAllMarked : List Bool → Type 0
AreAllMarked flags = HasNoneBefore flags (length flags)

-- the slot isn't marked, and all before it are
pub record IsFirstUnmarked (flags : List Bool) (slot : ℕ) : Type 0 where
  pub there : slot < length flags
  pub unmarked : slice_index_or flags slot false ≡ false
  pub before : HasNoneBefore flags slot
