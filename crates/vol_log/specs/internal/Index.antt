-- The index of a batch: each staged sector's number with its place in the batch, in the order of the numbers. A binary
-- search answers by `IsEntryOfNumber` where a number stands, or by `IsGapFor` where it would stand.
use Rattle.std.specs.Prelude.{◌≡◌, ◌≢◌, ℕ, ◌<◌, ◌≤◌, List, length, slice_index, slice_index_or}

-- a sector's number and its place, in the order of the numbers
abbrev pub Index : Type 0
Index = List (ℕ × ℕ)

abbrev pub number_at : Index → ℕ → ℕ
number_at index i = let entry = slice_index_or index i (0, 0) in entry.0

abbrev pub place_at : Index → ℕ → ℕ
place_at index i = let entry = slice_index_or index i (0, 0) in entry.1

-- the numbers rise, so none comes twice
abbrev pub Rises : Index → Type 0
Rises index = (i j : ℕ) → i < j → j < length index → number_at index i < number_at index j

-- these numbers, each with its place among them
pub record IsIndex (numbers : List ℕ) (index : Index) : Type 0 where
  pub rises : Rises index
  pub same_length : length index ≡ length numbers
  pub points : (i : ℕ) → i < length index → (place_at index i < length numbers) × (slice_index numbers (place_at index i) ≡ number_at index i)
  pub whole : (p : ℕ) → p < length numbers → ((i : ℕ) → i < length index → place_at index i ≢ p) → ⊥

-- the entry at i is this number's
pub record IsEntryOfNumber (index : Index) (number i : ℕ) : Type 0 where
  pub in_range : i < length index
  pub has_number : number_at index i ≡ number

-- this number would go to i: smaller numbers before it, and greater ones from there on
pub record IsGapFor (index : Index) (number i : ℕ) : Type 0 where
  pub in_range : i ≤ length index
  pub smaller_before : (j : ℕ) → j < i → number_at index j < number
  pub greater_after : (j : ℕ) → i ≤ j → j < length index → number < number_at index j
