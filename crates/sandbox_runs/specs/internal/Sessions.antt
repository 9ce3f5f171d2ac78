-- How the run of a session ended, whether it owns its module or shares it. The private function `run_session` promises it, and
-- `Ran` of `Running` says it of the module's first configuration.
use Rattle.std.specs.Prelude.{◌≡◌, ℕ, List, Option, Some}
use Rattle.std.specs.Io.KnownBytes.{Keeps}
use Rattle.vol_sector.specs.Disk.{Disk}
use Rattle.wasm_interp.specs.declared.frames.Frame.{Frame}
use Rattle.wasm_interp.specs.Frames.{frames_of}
use Rattle.wasi_bodies.specs.host.Worlds.{Hearing}
use Rattle.sandbox_core.specs.declared.report.Report.{Report}
use Rattle.sandbox_core.specs.declared.tally.Tally.{Tally}
use Rattle.sandbox_core.specs.Session.{SessionState, limited_to}
use Rattle.observed_run.specs.Telling.{TellsFrames}
use Rattle.observed_run.specs.Stacks.{Stacks}
use Rattle.sandbox_report.specs.declared.counted.Counted.{Counted}
use Rattle.sandbox_args.specs.declared.request.Run.{Run}
use Rattle.sandbox_runs.specs.declared.program.Executed.{Executed}
use Rattle.sandbox_telling.specs.declared.stopping.Stopped.{Stopped}
use Rattle.sandbox_telling.specs.Profiling.{IsUseWith, ReportsCharged, slice_of}
use Rattle.sandbox_telling.specs.Reporting.{run_summary}
use Rattle.sandbox_runs.specs.Running.{counted_devices, returned_device}
use Rattle.sandbox_runs.specs.Status.{EndsWith}
use Rattle.sandbox_runs.specs.internal.Seeds.{prepared_by}

module _ {D R W1 W2 : Type 0} (is_honest : D → Type 0) (disk : D → Disk) (sectors_on failures : D → ℕ) (goes_on : ℕ → D → D → Type 0)
    (remaining : R → Option (List ℕ)) (out_contents : W1 → Option (List ℕ)) (err_contents : W2 → Option (List ℕ)) (ear : Hearing R W1 W2) where
  pub record RunsSession (run : Run) (imported : ℕ) (begun : SessionState D (Counted R) (Counted W1) (Counted W2)) (left : Executed D R W1 W2) : Type 0 where
    pub report : Report D (Counted R) (Counted W1) (Counted W2)
    pub tally : Tally
    pub room : List Frame
    pub depth : ℕ
    pub stacks : Option Stacks
    pub reported : ReportsCharged (counted_devices is_honest disk sectors_on failures goes_on remaining out_contents err_contents ear)
        (prepared_by run (limited_to run.limits.values begun)) run.limits.fuel (slice_of run) report tally room depth stacks
    pub stopped : Stopped
    pub is_stopped : left.stopped ≡ Some stopped
    pub frames : TellsFrames (frames_of reported.told.counted.reports.last.machine) stopped.innermost.items stopped.depth
    pub answers : stopped.answers ≡ tally.answers
    pub fuel_use : IsUseWith stacks imported stopped.fuel_use
    pub ends : EndsWith report.outcome report.volume left.flushed left.status
    pub summary : left.summary ≡ Some (run_summary run report tally left.status left.flushed)
    pub device : left.device ≡ returned_device report.volume
    pub input : left.input ≡ report.input.stream
    pub out : Keeps (out_contents report.out.stream) (out_contents left.out)
    pub err : Keeps (err_contents report.err.stream) (err_contents left.err)
