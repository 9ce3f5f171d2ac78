-- What it means that a valid module is run on an open volume (`docs/USING.md`, "How a run ends"). Either it gets no
-- session (`NotOpened`), or `Ran` has one that ran from the module's first configuration, with its report, its end and
-- what a crash may leave.
use Rattle.std.specs.Prelude.{◌≡◌, ◌⊎◌, ◌≤◌, ℕ, true, List, Option, Some}
use Rattle.std.proofs.Common.{inl, inr}
use Rattle.std.specs.Io.KnownBytes.{Keeps}
use Rattle.vol_sector.specs.Disk.{Image, Disk, Leaves}
use Rattle.vol_tree.specs.Opened.{Opened}
use Rattle.vol_tree.specs.Stands.{StandsAs}
use Rattle.wasm_syntax.specs.declared.module.Module.{Module}
use Rattle.wasm_steps.specs.Configuration.{first_configuration}
use Rattle.wasm_steps.specs.Steps.{Reach}
use Rattle.wasi_calls.specs.declared.host.wasi_host.HostParts.{HostParts}
use Rattle.wasi_bodies.specs.World.{World}
use Rattle.wasi_bodies.specs.Calls as world
use Rattle.wasi_bodies.specs.host.Worlds.{StreamBytes, StreamsMove, MayFollow, before_moving, after_moving, world_of, Hearing}
use Rattle.sandbox_core.specs.declared.fault.SessionFault.{SessionFault}
use Rattle.sandbox_core.specs.declared.report.Report.{Report}
use Rattle.sandbox_core.specs.Devices.{Devices, Calls, numbers_of, tree_of}
use Rattle.sandbox_core.specs.Session.{SessionState, OpensWith, Shares, IsRefused, KeepsVolume}
use Rattle.sandbox_core.specs.Within.{StandsInRun}
use Rattle.sandbox_core.specs.declared.tally.Tally.{Tally}
use Rattle.sandbox_core.specs.Report.{ReportsCounted}
use Rattle.sandbox_args.specs.declared.request.Run.{Run}
use Rattle.sandbox_report.specs.declared.counted.Counted.{Counted}
use Rattle.wasm_interp.specs.Machine.{Represents}
use Rattle.wasm_interp.specs.Frames.{frames_of}
use Rattle.observed_run.specs.Telling.{TellsFrames}
use Rattle.sandbox_runs.specs.declared.program.Executed.{Executed}
use Rattle.sandbox_telling.specs.declared.stopping.Stopped.{Stopped}
use Rattle.sandbox_telling.specs.Supplies.{terminals_of}
use Rattle.sandbox_runs.specs.Status.{EndsWith, session_status}
use Rattle.sandbox_runs.specs.Silent.{IsSilent}
use Rattle.sandbox_telling.specs.Profiling.{IsFuelUse, slice_of}
pub use Rattle.sandbox_telling.specs.RunHost.{counted_bytes, counting, counted_devices, counted_hearing, known_of, returned_device, Host, HostCalls}
use Rattle.sandbox_runs.specs.Guest.{GuestRan}
use Rattle.sandbox_telling.specs.Reporting.{kept_where_not_begun, not_run, run_summary, session_reason}

module _ {D R W1 W2 : Type 0} (is_honest : D → Type 0) (disk : D → Disk) (sectors_on failures : D → ℕ) (goes_on : ℕ → D → D → Type 0)
    (remaining : R → Option (List ℕ)) (out_contents : W1 → Option (List ℕ)) (err_contents : W2 → Option (List ℕ)) (ear : Hearing R W1 W2) where
  abbrev pub on : Devices D (Counted R) (Counted W1) (Counted W2)
  on = counted_devices is_honest disk sectors_on failures goes_on remaining out_contents err_contents ear

  -- The module gets no session, and nothing but reads was done with the volume.
  pub record NotOpened (m : Module) (run : Run) (parts : HostParts D R W1 W2) (left : Executed D R W1 W2) : Type 0 where
    pub fault : SessionFault
    pub refused : IsRefused is_honest fault m (counting run parts)
    pub volume : Opened D
    pub kept : KeepsVolume on.device fault parts.volume volume
    pub device : left.device ≡ volume.device
    pub ends : left.status ≡ session_status fault
    pub flushed : left.flushed ≡ true
    pub summary : left.summary ≡ Some (not_run run (session_reason fault) (kept_where_not_begun run.volume fault) left.status)
    pub streams : IsSilent out_contents err_contents Keeps parts.input parts.out parts.err left

  -- A session ran from the module's first configuration, with this fuel. Its random bytes are those of a seed exactly where
  -- the words name one, and it was interactive exactly where they say so.
  pub record Ran (m : Module) (run : Run) (parts : HostParts D R W1 W2) (left : Executed D R W1 W2) : Type 0 where
    pub session : SessionState D (Counted R) (Counted W1) (Counted W2)
    pub opens : OpensWith run.seed (terminals_of run) m (counting run parts) session
    pub shares : Shares on.device (counting run parts) session
    pub report : Report D (Counted R) (Counted W1) (Counted W2)
    pub tally : Tally
    pub counted : ReportsCounted on session run.limits.fuel report tally
    -- the functions that were at work when it stopped are those of its last session
    pub stopped : Stopped
    pub is_stopped : left.stopped ≡ Some stopped
    pub frames : TellsFrames (frames_of counted.reports.last.machine) stopped.innermost.items stopped.depth
    -- and how often each errno was answered
    pub answers : stopped.answers ≡ tally.answers
    -- where its fuel went, if that is told
    pub fuel_use : IsFuelUse (slice_of run) session counted.reports.resumes report.used m stopped.fuel_use
    pub ends : EndsWith report.outcome report.volume left.flushed left.status
    pub summary : left.summary ≡ Some (run_summary run report tally left.status left.flushed)
    pub device : left.device ≡ returned_device report.volume
    -- on any device that goes on from the volume's
    pub goes : (end : ℕ) → parts.volume.numbers.sectors ≤ end → (earlier : D) → goes_on end earlier parts.volume.device → goes_on end earlier left.device
    -- The streams are those of the run's last host: the output and the side of errors have what the guest wrote there and
    -- nothing else.
    pub input : left.input ≡ counted.reports.last.host.input.reader.stream
    pub out : Keeps (out_contents counted.reports.last.host.out.writer.stream) (out_contents left.out)
    pub err : Keeps (err_contents counted.reports.last.host.err.writer.stream) (err_contents left.err)
    -- The streams moved by some bytes, each that tells its bytes by those that it told. Whatever others they have, this is a
    -- run over a tree of paths.
    pub over_paths : is_honest parts.volume.device → let first = first_configuration opens.starts.entered opens.starts.store in
        let run = counted.reports.run opens.starts.instance first opens.starts.stands in
        (moved : StreamBytes) × StreamsMove (counted_bytes remaining) (counted_bytes out_contents) (counted_bytes err_contents) session.host counted.reports.last.host moved
        × ((others : StreamBytes) → MayFollow counted.reports.last.host others
        → Reach World world.Calls opens.starts.instance (world_of session.host (before_moving moved others)) first run.answers (world_of counted.reports.last.host (after_moving moved others)) run.last)
    -- Where a crash at its beginning leaves the volume's tree, one at any moment leaves that of a host that the run comes by.
    pub crash : is_honest parts.volume.device → ((c : Image) → (disk parts.volume.device).may_leave c → StandsAs c parts.volume.numbers parts.volume.tree)
        → let first = first_configuration opens.starts.entered opens.starts.store in
        Leaves (disk parts.volume.device) (disk left.device)
        (StandsInRun (Calls on) numbers_of tree_of (counted.reports.run opens.starts.instance first opens.starts.stands))

  -- a valid module gets no session, or runs
  abbrev pub Launches : Module → Run → HostParts D R W1 W2 → Executed D R W1 W2 → Type 0
  Launches m run parts left = NotOpened m run parts left ⊎ Ran m run parts left

  -- what a stop after the volume was opened may leave: the tree of a host that the run comes by
  abbrev pub LeftByRun : (m : Module) (run : Run) (parts : HostParts D R W1 W2) (left : Executed D R W1 W2) → Launches m run parts left → Image → Type 0
  LeftByRun m run parts left (inl refused) image = ⊥
  LeftByRun m run parts left (inr r) image =
      let first = first_configuration r.opens.starts.entered r.opens.starts.store in
      StandsInRun (Calls on) numbers_of tree_of
      (r.counted.reports.run r.opens.starts.instance first r.opens.starts.stands) image

  -- in a run a guest ran, by the machine's own relation
  abbrev pub RunsAreGuests : Type 0
  RunsAreGuests = (m : Module) (run : Run) (parts : HostParts D R W1 W2) (left : Executed D R W1 W2)
      → Ran m run parts left → GuestRan Represents is_honest disk sectors_on failures goes_on remaining out_contents err_contents ear m run parts left
