-- What the report of a run says: how it ended, with which units of fuel, and what it left. A run resumes a session
-- until it ends, or until all fuel is used and the next step takes a unit, and then commits all calls (`docs/USING.md`,
-- "How a run ends").
use Rattle.std.specs.Prelude.{◌≡◌, ℕ, ◌≤◌, ◌/◌, length, None}
use Rattle.vol_sector.specs.Disk.{Leaves}
use Rattle.vol_tree.specs.Opened.{GoesOn}
use Rattle.wasm_steps.specs.Configuration.{Instance, Configuration}
use Rattle.wasm_interp.specs.Machine.{Represents, outcome_of}
use Rattle.wasm_interp.specs.Promise.{HasItsUnit}
use Rattle.wasm_steps.specs.declared.pause.Pause.TheVariants.{Ended}
use Rattle.wasi_bodies.specs.host.Worlds.{HearsStreams, stream_failed}
use Rattle.sandbox_core.specs.declared.report.Report.{Report}
use Rattle.sandbox_core.specs.Devices.{Devices, Calls, IsHonest, disk_of, numbers_of, tree_of}
use Rattle.sandbox_core.specs.Session.{SessionState, Commits, History, Follow, used_by}
use Rattle.sandbox_core.specs.Runs.{RunsWithin, LeftInRun}
use Rattle.sandbox_core.specs.declared.tally.Tally.{Tally}
use Rattle.sandbox_core.specs.Tally.{Tallies}

module _ {D R W1 W2 : Type 0} (on : Devices D R W1 W2) where
  -- From each configuration that the session stands for there is a run with this fuel, which ends so; then the volume
  -- is committed. Each image that a crash may leave since the run began could be left before, or stands for a tree that
  -- one could leave then, or for that of a host that the run comes by. What is left is handed back.
  pub record Reports (session : SessionState D R W1 W2) (fuel : ℕ) (report : Report D R W1 W2) : Type 0 where
    pub last : SessionState D R W1 W2
    pub used : report.used ≡ used_by last
    pub within : report.used ≤ fuel
    pub pages : report.pages ≡ length last.machine.memory / 65536
    -- whether a stream failed; and it did exactly where its last call was refused
    pub broken : report.broken ≡ stream_failed last.host
    pub heard : HearsStreams on.ear session.host last.host
    -- the resumes that it was made of, one after another
    pub resumes : History (SessionState D R W1 W2)
    pub follow : Follow on session resumes last
    pub run : (i : Instance) (c : Configuration) → Represents session.machine i c
        → RunsWithin (Calls on) i session.host c fuel last.host report.outcome (used_by last)
    -- memory was refused only to a step that has its unit
    pub unit : outcome_of session.machine ≡ None → (i : Instance) (c : Configuration)
        (stands : Represents session.machine i c) → HasItsUnit (Ended report.outcome) fuel (run i c stands).last
    pub volume : Commits on.device last.host.volume report.volume
    pub crash : IsHonest on session.host → (i : Instance) (c : Configuration) (stands : Represents session.machine i c)
        → Leaves (disk_of on session.host) (on.device.disk volume.new.device)
        (LeftInRun (Calls on) (disk_of on) numbers_of tree_of (run i c stands))
    -- on any device the volume's numbers stayed so far, and the device's size; and it went on, also in the commit
    pub numbers : last.host.volume.numbers ≡ session.host.volume.numbers
    pub size : on.device.size last.host.volume.device ≡ on.device.size session.host.volume.device
    pub goes : GoesOn on.device.goes_on session.host.volume volume.new
    pub honest_after : IsHonest on session.host → IsHonest on last.host
    pub input : report.input ≡ last.host.input.reader
    pub out : report.out ≡ last.host.out.writer
    pub err : report.err ≡ last.host.err.writer

  -- such a report, and the tally of the resumes that the run was made of
  pub record ReportsCounted (session : SessionState D R W1 W2) (fuel : ℕ) (report : Report D R W1 W2)
      (tally : Tally) : Type 0 where
    pub reports : Reports session fuel report
    pub tallies : Tallies reports.resumes tally
