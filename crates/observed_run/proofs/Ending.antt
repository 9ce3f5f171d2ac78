-- What is told of a run that has stopped, by its resumes alone.
use Rattle.std.proofs.Common.{◌≡◌, ◌-◌, ℕ, List, [], ◌∷◌, ◌++◌, Option, refl, sym, ap, subst, arith}
use Rattle.wasm_steps.specs.declared.pause.Outcome.{Outcome}
use Rattle.wasm_interp.specs.declared.frames.Frame.{Frame}
use Rattle.wasm_interp.specs.Frames.{frames_of}
use Rattle.sandbox_core.specs.declared.report.Report.{Report}
use Rattle.sandbox_core.specs.declared.tally.Tally.{Tally}
use Rattle.sandbox_core.specs.Devices.{Devices}
use Rattle.sandbox_core.specs.Session.{SessionState, History, used_by}
use Rattle.sandbox_core.specs.Tally.{Tallies}
use Rattle.sandbox_core.specs.Slices.{ReportsStop, RunsSlice, Stops, StopsAfter, outcome_after, stop_of}
use Rattle.sandbox_core.proofs.Stopping.{slice_spends, stops_after, stops_at_end}
use Rattle.observed_run.specs.Stacks.{Stacks}
use Rattle.observed_run.specs.Telling.{ReportsTold, TellsFrames}
use Rattle.observed_run.specs.Charging.{ChargesRun, ReportsProfiled}

module _ {D R W1 W2 : Type 0} (on : Devices D R W1 W2) where
  abbrev S : Type 0
  S = SessionState D R W1 W2

  -- a run that is one slice
  pub stops_in_one : (first last : S) (fuel : ℕ) (before after : Tally) (end : Option Outcome) (outcome : Outcome) → outcome ≡ outcome_after end
      → (slice : RunsSlice on first last fuel (stop_of end) before after) → StopsAfter on first (slice.calls ++ (stop_of end, last) ∷ []) last fuel outcome
  stops_in_one first last fuel before after end outcome is slice =
      stops_after on first last fuel before after first [] fuel outcome (stop_of end) slice refl (λ running. running) (omega arith)
      (subst (λ (o : Outcome). Stops (stop_of end) fuel (used_by last) o) (sym is)
      (stops_at_end on end fuel (used_by last) (λ none. slice_spends on first last fuel before after (subst (λ (e : Option Outcome). RunsSlice on first last fuel (stop_of e) before after) none slice))))

  module _ (first last : S) (resumes : History S) (fuel : ℕ) (outcome : Outcome) (report : Report D R W1 W2) (tally : Tally) (room : List Frame) (depth : ℕ)
      (stops : StopsAfter on first resumes last fuel outcome) (tallies : Tallies resumes tally) (reports : ReportsStop on last outcome report)
      (frames : TellsFrames (frames_of last.machine) room depth) where
    -- its report, and its frames
    pub told_after : ReportsTold on first fuel report tally room depth
    told_after =
        let all = reports first resumes fuel stops in
        record {
          counted = record { reports = all.0; tallies = subst (λ (rs : History S). Tallies rs tally) (sym all.2) tallies };
          frames = subst (λ (s : S). TellsFrames (frames_of s.machine) room depth) (sym all.1) frames;
        }

    -- and where its units went
    pub profiled_after : (every : ℕ) (old new : Stacks) → used_by first ≡ 0 → ChargesRun every first resumes (used_by last - used_by first) old new
        → ReportsProfiled on first fuel every report tally room depth old new
    unfolding told_after
    profiled_after every old new unused charges =
        let all = reports first resumes fuel stops in
        let used : used_by last - used_by first ≡ report.used = omega (arith, unused, all.0.used, ap (λ (s : S). used_by s) all.1) in
        record {
          told = told_after;
          profile = subst (λ (n : ℕ). ChargesRun every first all.0.resumes n old new) used (subst (λ (rs : History S). ChargesRun every first rs (used_by last - used_by first) old new) (sym all.2) charges);
        }
