-- Where the units of a run went that was made in slices: each slice is charged as a whole to the functions that were at work
-- where it began.
use Rattle.std.specs.Prelude.{◌≡◌, ℕ, ◌+◌, ◌-◌, ◌<◌, ◌≤◌, ◌==◌, List, [], ◌∷◌, ◌++◌, if◌then◌else◌, map, max, sum, length, slice_index}
use Rattle.std.specs.List.{All}
use Rattle.wasm_steps.specs.declared.pause.Pause.TheVariants.{Called, Spent, Ended}
use Rattle.wasm_interp.specs.declared.frames.Frame.{Frame}
use Rattle.wasm_interp.specs.Frames.{frames_of}
use Rattle.sandbox_core.specs.declared.report.Report.{Report}
use Rattle.sandbox_core.specs.declared.tally.Tally.{Tally}
use Rattle.sandbox_core.specs.Devices.{Devices}
use Rattle.sandbox_core.specs.Session.{SessionState, History, used_by}
use Rattle.observed_run.specs.declared.stacks.Call.{Call}
use Rattle.observed_run.specs.Stacks.{Stacks, IsNodeOf}
use Rattle.observed_run.specs.Telling.{ReportsTold}

-- a slice: the session where it began, and the units that it took
pub record Slice (D R W1 W2 : Type 0) : Type 0 where
  pub start : SessionState D R W1 W2
  pub units : ℕ

-- these units more at a node
abbrev pub charged : (ℕ → ℕ) → ℕ → ℕ → ℕ → ℕ
charged at node units k = if k == node then at k + units else at k

module _ {D R W1 W2 : Type 0} where
  -- the functions at work, the innermost first, each by its index among the module's own
  abbrev pub functions_of : SessionState D R W1 W2 → List ℕ
  functions_of s = map (λ (f : Frame). f.own) (frames_of s.machine)

  abbrev pub slice : SessionState D R W1 W2 → SessionState D R W1 W2 → Slice D R W1 W2
  slice start end = record { start = start; units = used_by end - used_by start }

  -- The slices of some resumes, the first of which began at `start` and has come to `now`. One begins at each pause before a step
  -- whose unit isn't left, and goes on to the next such pause, whatever calls are answered on the way; the last one goes on to
  -- the end.
  abbrev pub slices_from : SessionState D R W1 W2 → SessionState D R W1 W2 → History (SessionState D R W1 W2)
      → List (Slice D R W1 W2)
  slices_from start now [] = slice start now ∷ []
  slices_from start now ((Called call e, s) ∷ rs) = slices_from start s rs
  slices_from start now ((Spent, s) ∷ rs) = slice start s ∷ slices_from s s rs
  slices_from start now ((Ended o, s) ∷ rs) = slices_from start s rs

  -- The slices were charged one after another, each to a node; where it took units, that of the functions at work where it
  -- began. The nodes' units were these before, and are those now.
  abbrev pub Charges : Stacks → List (Slice D R W1 W2) → (ℕ → ℕ) → (ℕ → ℕ) → Type 0
  Charges stacks [] before now = (k : ℕ) → now k ≡ before k
  Charges stacks (s ∷ rest) before now = (node : ℕ) × (0 < s.units → IsNodeOf stacks (functions_of s.start) node)
      × Charges stacks rest (charged before node s.units) now

  -- The slices of these resumes have at most so many units each, and were charged to the stacks; those that were there kept
  -- their nodes. So the sum of all rose by the units that were used. No more nodes came than there was room for.
  pub record ChargesRun (every : ℕ) (first : SessionState D R W1 W2) (resumes : History (SessionState D R W1 W2)) (used : ℕ)
      (old new : Stacks) : Type 0 where
    pub added : List Call
    pub calls : new.calls ≡ old.calls ++ added
    pub short : All (λ (s : Slice D R W1 W2). s.units ≤ max every 1) (slices_from first first resumes)
    pub charges : Charges new (slices_from first first resumes) (slice_index old.units) (slice_index new.units)
    pub in_all : sum new.units ≡ sum old.units + used
    pub within : length added + new.room ≤ old.room

module _ {D R W1 W2 : Type 0} (on : Devices D R W1 W2) where
  -- what is told of a run that isn't profiled, and where the units of its report went
  pub record ReportsProfiled (session : SessionState D R W1 W2) (fuel every : ℕ) (report : Report D R W1 W2) (tally : Tally)
      (room : List Frame) (depth : ℕ) (old new : Stacks) : Type 0 where
    pub told : ReportsTold on session fuel report tally room depth
    pub profile : ChargesRun every session told.counted.reports.resumes report.used old new
