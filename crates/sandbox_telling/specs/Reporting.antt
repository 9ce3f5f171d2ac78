-- What the report of a run says of it (`crates/sandbox_report/specs`). Here stands where each field of a `Summary` comes
-- from, for a run that could not begin (`not_run`) and for one that did (`run_summary`).
use Rattle.std.specs.Prelude.{◌||◌, ℕ, Bool, true, false, Option, Some, None, Result, Ok, Err, if◌then◌else◌}
use Rattle.std.specs.Borrow.{Bor}
use Rattle.std.specs.Option.{option_or}
use Rattle.vol_sector.specs.declared.fault.VolumeFault.{VolumeFault}
use Rattle.vol_sector.specs.declared.fault.VolumeFault.TheVariants as volume
use Rattle.sandbox_core.specs.declared.fault.SessionFault.{SessionFault}
use Rattle.sandbox_core.specs.declared.fault.SessionFault.TheVariants as opening
use Rattle.sandbox_core.specs.declared.report.Report.{Report}
use Rattle.sandbox_core.specs.declared.tally.Tally.{Tally}
use Rattle.sandbox_args.specs.declared.request.Run.{Run}
use Rattle.sandbox_args.specs.Request.{Text}
use Rattle.sandbox_report.specs.declared.counted.Counted.{Counted}
use Rattle.sandbox_report.specs.declared.end.End.TheVariants.{Ran, Refused}
use Rattle.sandbox_report.specs.declared.fault.Fault.{Fault}
use Rattle.sandbox_report.specs.declared.fault.Fault.TheVariants as reason
use Rattle.sandbox_report.specs.declared.summary.CutStreams.{CutStreams}
use Rattle.sandbox_report.specs.declared.summary.VolumeEnd.{VolumeEnd}
use Rattle.sandbox_report.specs.declared.summary.VolumeEnd.TheVariants as kept
use Rattle.sandbox_report.specs.declared.summary.Summary.{Summary}
pub use Rattle.sandbox_telling.specs.RunHost.{counted_bytes, from_here, output_of, counting}

-- ---- the volume of a run

-- the file that a run finds its volume in, its own, an image or a tar stream; where there is none, it begins with an empty one
abbrev pub volume_of : Run → Option (Bor Text)
volume_of run = option_or run.volume (option_or run.image run.image_from)

-- the file that gets its volume at the end, or the tree of that as a tar stream
abbrev pub receiver_of : Run → Option (Bor Text)
receiver_of run = option_or run.volume_out run.out_to

-- the file that its volume stays in, its own or one that gets it
abbrev pub kept_in : Run → Option (Bor Text)
kept_in run = option_or run.volume (receiver_of run)

-- ---- a run that could not begin

abbrev pub session_reason : SessionFault → Fault
session_reason opening.Setting = reason.Setting
session_reason (opening.Instance f) = reason.Instance f
session_reason opening.Device = reason.Volume volume.Device
session_reason opening.Preopen = reason.Preopen
session_reason opening.Memory = reason.Memory

-- none of its outputs was cut
abbrev pub uncut : CutStreams
uncut = record { output = false; errors = false }

-- the guest took nothing and gave nothing
abbrev pub not_run : Run → Fault → VolumeEnd → ℕ → Summary
not_run run fault became status = record {
  end = Refused fault;
  status = status;
  units = 0;
  fuel = run.limits.fuel;
  pages = 0;
  read = 0;
  written = 0;
  complained = 0;
  calls = 0;
  syncs = 0;
  volume = became;
  flushed = true;
  broken = false;
  cut = uncut;
}

-- What became of the volume that could not be opened: its device failed, or it wasn't open at all. Also where the run names
-- no file, so that its device is one of its own.
abbrev pub kept_where_refused : VolumeFault → VolumeEnd
kept_where_refused volume.Device = kept.Failed
kept_where_refused f = kept.None

-- and of an open one whose module gets no session
abbrev pub kept_where_not_begun : Option (Bor Text) → SessionFault → VolumeEnd
kept_where_not_begun file opening.Device = kept.Failed
kept_where_not_begun None f = kept.None
kept_where_not_begun (Some file) f = kept.Kept

-- ---- a run

-- and of that of a guest that ran
abbrev pub kept_after_run : {V R : Type 0} → Option (Bor Text) → Result V R → VolumeEnd
kept_after_run file (Err refused) = kept.Failed
kept_after_run None (Ok v) = kept.None
kept_after_run (Some file) (Ok v) = kept.Kept

module _ {D R W1 W2 : Type 0} where
  -- A stream failed. Where an output was cut, which its calls are told as a failure too, it is one that refused by itself.
  abbrev pub broken_in : Report D (Counted R) (Counted W1) (Counted W2) → Bool
  broken_in report = if report.out.full || report.err.full then report.input.failed || (report.out.failed || report.err.failed) else report.broken

  -- How the run ended, the units that it used and its pages are those of its report; the calls and syncs are those of its resumes; the
  -- bytes, what was cut and what failed are those of its streams.
  abbrev pub run_summary : Run → Report D (Counted R) (Counted W1) (Counted W2) → Tally → (status : ℕ) → (flushed : Bool) → Summary
  run_summary run report tally status flushed = record {
    end = Ran report.outcome;
    status = status;
    units = report.used;
    fuel = run.limits.fuel;
    pages = report.pages;
    read = report.input.count;
    written = report.out.count;
    complained = report.err.count;
    calls = tally.calls;
    syncs = tally.syncs;
    volume = kept_after_run (kept_in run) report.volume;
    flushed = flushed;
    broken = broken_in report;
    cut = record { output = report.out.full; errors = report.err.full };
  }
