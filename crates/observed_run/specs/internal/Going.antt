-- A run in slices on its way.
use Rattle.std.specs.Prelude.{◌≡◌, ℕ, ◌+◌, ◌-◌, ◌≤◌, List, ◌++◌, None, length, max, sum, slice_index}
use Rattle.std.specs.List.{All}
use Rattle.wasm_steps.specs.declared.pause.Outcome.{Outcome}
use Rattle.wasm_interp.specs.Machine.{outcome_of}
use Rattle.sandbox_core.specs.declared.tally.Tally.{Tally}
use Rattle.sandbox_core.specs.Devices.{Devices}
use Rattle.sandbox_core.specs.Session.{SessionState, History, Follow, used_by}
use Rattle.sandbox_core.specs.Tally.{Tallies}
use Rattle.sandbox_core.specs.Slices.{StopsAfter}
use Rattle.observed_run.specs.declared.stacks.Call.{Call}
use Rattle.observed_run.specs.Stacks.{Stacks, AddsUnits, Grows, IsNodeOf}
use Rattle.observed_run.specs.Charging.{Slice, Charges, ChargesRun, functions_of, slices_from}

-- a slice was charged to the functions at work where it began
pub record ChargesSlice {D R W1 W2 : Type 0} (start end : SessionState D R W1 W2) (old new : Stacks) : Type 0 where
  pub grown : Stacks
  pub grows : Grows old grown
  pub node : ℕ
  pub is : IsNodeOf grown (functions_of start) node
  pub adds : AddsUnits grown new node (used_by end - used_by start)

module _ {D R W1 W2 : Type 0} (on : Devices D R W1 W2) where
  -- The slices so far are over and charged, and the next one begins now.
  pub record GoesInSlices (every : ℕ) (first now : SessionState D R W1 W2) (tally : Tally) (old stacks : Stacks) : Type 0 where
    pub resumes : History (SessionState D R W1 W2)
    pub follow : Follow on first resumes now
    pub tallies : Tallies resumes tally
    pub running : outcome_of first.machine ≡ None → outcome_of now.machine ≡ None
    pub slices : List (Slice D R W1 W2)
    pub parts : (more : History (SessionState D R W1 W2))
        → slices_from first first (resumes ++ more) ≡ slices ++ slices_from now now more
    pub short : All (λ (s : Slice D R W1 W2). s.units ≤ max every 1) slices
    pub added : List Call
    pub calls : stacks.calls ≡ old.calls ++ added
    pub charges : Charges stacks slices (slice_index old.units) (slice_index stacks.units)
    pub rises : used_by first ≤ used_by now
    pub in_all : sum stacks.units ≡ sum old.units + (used_by now - used_by first)
    pub within : length added + stacks.room ≤ old.room

  -- All slices are over and charged.
  pub record RunsInSlices (first : SessionState D R W1 W2) (fuel every : ℕ) (last : SessionState D R W1 W2) (outcome : Outcome)
      (tally : Tally) (old new : Stacks) : Type 0 where
    pub resumes : History (SessionState D R W1 W2)
    pub stops : StopsAfter on first resumes last fuel outcome
    pub tallies : Tallies resumes tally
    pub charges : ChargesRun every first resumes (used_by last - used_by first) old new
