-- Going up a table of parents, entry by entry, to the root. Where `lead_to_root`, a check of opening, says yes,
-- `AllLeadUp` holds, and it says yes wherever `AllLeadUpSoon` holds, unless memory fails.
use Rattle.std.specs.Prelude.{◌≡◌, ◌≢◌, ◌+◌, ◌-◌, ◌≤◌, ◌<◌, ℕ, zero, suc, List, Bool, true, false, length, slice_index, slice_index_or}

-- The serial of the directory that an entry is in, this many steps up. The table has 0 for the root.
abbrev pub climb : ℕ → List ℕ → ℕ → ℕ
climb zero parents serial = serial
climb (suc steps) parents serial = climb steps parents (slice_index parents (serial - 1))

-- some steps up is the root
abbrev pub LeadsUp : List ℕ → ℕ → Type 0
LeadsUp parents serial = (steps : ℕ) × (climb steps parents serial ≡ 1)

-- no more steps than there are slots
abbrev pub LeadsUpSoon : List ℕ → ℕ → Type 0
LeadsUpSoon parents serial = (steps : ℕ) × (steps ≤ length parents) × (climb steps parents serial ≡ 1)

-- each entry with a parent leads up to the root
abbrev pub AllLeadUp : List ℕ → Type 0
AllLeadUp parents = (s : ℕ) → s < length parents → slice_index parents s ≢ 0 → LeadsUp parents (s + 1)

abbrev pub AllLeadUpSoon : List ℕ → Type 0
AllLeadUpSoon parents = (s : ℕ) → s < length parents → slice_index parents s ≢ 0 → LeadsUpSoon parents (s + 1)

-- the entries with a mark lead up to the root, which has one
pub record AreMarked (parents : List ℕ) (marks : List Bool) : Type 0 where
  pub lead : (s : ℕ) → slice_index_or marks s false ≡ true → LeadsUp parents (s + 1)
  pub top : slice_index_or marks 0 false ≡ true
  pub count : length marks ≡ length parents

-- each parent is a directory
abbrev pub StandInDirectories : List ℕ → List Bool → Type 0
StandInDirectories parents directories = (s : ℕ) → s < length parents → slice_index parents s ≢ 0 → slice_index_or directories (slice_index parents s - 1) false ≡ true
