-- What a run tells of the functions that were at work when it stopped. They are those of the machine of its last session, so
-- the law `frames_are_the_configurations` of `wasm_interp` says of which configuration they are the frames.
use Rattle.std.specs.Prelude.{◌≡◌, ℕ, ◌-◌, ◌<◌, ◌^◌, List, length, min, slice_get}
use Rattle.wasm_interp.specs.declared.frames.Frame.{Frame}
use Rattle.wasm_interp.specs.Frames.{frames_of}
use Rattle.sandbox_core.specs.declared.report.Report.{Report}
use Rattle.sandbox_core.specs.declared.tally.Tally.{Tally}
use Rattle.sandbox_core.specs.Devices.{Devices}
use Rattle.sandbox_core.specs.Session.{SessionState}
use Rattle.sandbox_core.specs.Report.{ReportsCounted}

-- There are this many frames, up to the greatest number, and the innermost stand in the room, the innermost first, as many as it
-- has places for.
pub record TellsFrames (frames room : List Frame) (depth : ℕ) : Type 0 where
  pub count : depth ≡ min (length frames) (2 ^ 64 - 1)
  pub innermost : (k : ℕ) → k < length room → k < depth → slice_get room k ≡ slice_get frames k

module _ {D R W1 W2 : Type 0} (on : Devices D R W1 W2) where
  -- such a report and tally as those of a run that isn't looked at, and the frames of the session that it stopped with
  pub record ReportsTold (session : SessionState D R W1 W2) (fuel : ℕ) (report : Report D R W1 W2) (tally : Tally)
      (room : List Frame) (depth : ℕ) : Type 0 where
    pub counted : ReportsCounted on session fuel report tally
    pub frames : TellsFrames (frames_of counted.reports.last.machine) room depth
