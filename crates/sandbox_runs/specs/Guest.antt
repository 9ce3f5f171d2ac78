-- What a run whose guest ran has left, by whichever relation machines stand for configurations: a session that began with what the words
-- gave it and was resumed, the run that this was, and how the process tells of it (`docs/USING.md`, "How a run ends").
use Rattle.std.specs.Prelude.{◌≡◌, ◌≤◌, ℕ, List, Option, Result}
use Rattle.std.specs.Io.KnownBytes.{Keeps}
use Rattle.vol_sector.specs.Disk.{Image, Disk, Leaves}
use Rattle.vol_sector.specs.declared.fault.Refused.{Refused}
use Rattle.vol_tree.specs.Opened.{Opened}
use Rattle.vol_tree.specs.Stands.{StandsAs}
use Rattle.wasm_syntax.specs.declared.module.Module.{Module}
use Rattle.wasm_steps.specs.declared.pause.Outcome.{Outcome}
use Rattle.wasm_steps.specs.Configuration.{first_configuration}
use Rattle.wasm_operands.specs.Snapshots.{StandsFor}
use Rattle.wasi_calls.specs.declared.host.wasi_host.HostParts.{HostParts}
use Rattle.wasi_bodies.specs.host.Worlds.{Hearing}
use Rattle.sandbox_core.specs.Devices.{Devices, Calls, numbers_of, tree_of}
use Rattle.sandbox_core.specs.Sessions.{SessionState, OpensBy, Shares, History, FollowBy, used_by}
use Rattle.sandbox_core.specs.Within.{RunsWithin, StandsInRun}
use Rattle.sandbox_args.specs.declared.request.Run.{Run}
use Rattle.sandbox_report.specs.declared.counted.Counted.{Counted}
use Rattle.sandbox_runs.specs.declared.program.Executed.{Executed}
use Rattle.sandbox_telling.specs.Supplies.{terminals_of}
use Rattle.sandbox_runs.specs.Status.{EndsWith}
use Rattle.sandbox_telling.specs.RunHost.{counted_devices, counting, returned_device}

module _ {D R W1 W2 : Type 0} (Stands : StandsFor) (is_honest : D → Type 0) (disk : D → Disk) (sectors_on failures : D → ℕ)
    (goes_on : ℕ → D → D → Type 0) (remaining : R → Option (List ℕ)) (out_contents : W1 → Option (List ℕ))
    (err_contents : W2 → Option (List ℕ)) (ear : Hearing R W1 W2) where
  abbrev pub Session : Type 0
  Session = SessionState D (Counted R) (Counted W1) (Counted W2)

  abbrev pub on : Devices D (Counted R) (Counted W1) (Counted W2)
  on = counted_devices is_honest disk sectors_on failures goes_on remaining out_contents err_contents ear

  pub record GuestRan (m : Module) (words : Run) (parts : HostParts D R W1 W2) (left : Executed D R W1 W2) : Type 0 where
    -- Its random bytes are those of a seed exactly where the words name one, and it was interactive exactly where they say so.
    pub session : Session
    pub opens : OpensBy Stands words.seed (terminals_of words) m (counting words parts) session
    pub shares : Shares on.device (counting words parts) session
    -- the resumes up to the last session
    pub last : Session
    pub resumes : History Session
    pub follow : FollowBy Stands on session resumes last
    -- a run from the module's first configuration with the fuel of the words, which ended so
    pub outcome : Outcome
    pub within : used_by last ≤ words.limits.fuel
    pub run : RunsWithin (Calls on) opens.starts.instance session.host (first_configuration opens.starts.entered opens.starts.store)
        words.limits.fuel last.host outcome (used_by last)
    -- the volume once its calls are committed, or the device; and the status that tells of both
    pub volume : Result (Opened D) (Refused D)
    pub device : left.device ≡ returned_device volume
    pub ends : EndsWith outcome volume left.flushed left.status
    -- the output and the side of errors have what the guest wrote there and nothing else
    pub input : left.input ≡ last.host.input.reader.stream
    pub out : Keeps (out_contents last.host.out.writer.stream) (out_contents left.out)
    pub err : Keeps (err_contents last.host.err.writer.stream) (err_contents left.err)
    -- Where a crash at its beginning leaves the volume's tree, one at any moment leaves that of a host that the run comes by.
    pub crash : is_honest parts.volume.device
        → ((c : Image) → (disk parts.volume.device).may_leave c → StandsAs c parts.volume.numbers parts.volume.tree)
        → Leaves (disk parts.volume.device) (disk left.device) (StandsInRun (Calls on) numbers_of tree_of run)
