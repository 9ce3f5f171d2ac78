use Rattle.std.proofs.Common.{◌≡◌, ◌≤◌, ◌+◌, ◌-◌, ℕ, List, length, false}
use Rattle.std.specs.Io.KnownBytes.{Consumes}
use Rattle.stream_answers.specs.Hearing.{Goes, Moves}
use Rattle.vol_sector.specs.Disk.{Leaves}
use Rattle.vol_tree.specs.Calls.{with_bytes}
use Rattle.vol_tree.specs.Opened.{Keeps, GoesOn}
use Rattle.vol_commands.specs.Tasks.{HasBeginning, ReflectsAny}
use Rattle.vol_commands.proofs.putting.write_input.Given as goal
use Rattle.vol_inode.specs.declared.version.TheConstants.{LARGEST_SIZE}
use Rattle.vol_commands.specs.internal.Working.{IsWorking}

-- the file has the bytes so far
abbrev pub invariant-loop-offset : goal.invariant-loop-offset
invariant-loop-offset g l = record {
  working : IsWorking l.volume;
  heard : Goes (Moves g.R.Inlet.gave) l.initial.input l.input;
  kept : Keeps g.D.Device.honest g.D.Device.size g.D.Device.failures l.initial.volume l.volume false;
  goes : GoesOn g.D.Device.goes_on l.initial.volume l.volume;
  filled : g.D.Device.honest l.initial.volume.device → (bytes : List ℕ) × Consumes (g.R.Read.remaining l.initial.input) (g.R.Read.remaining l.input) bytes
      × (l.volume.tree ≡ with_bytes l.initial.volume.tree l.file bytes) × (l.offset ≡ length bytes) × (length bytes ≤ LARGEST_SIZE);
  crash : g.D.Device.honest l.initial.volume.device → Leaves (g.D.Device.disk l.initial.volume.device) (g.D.Device.disk l.volume.device)
      (ReflectsAny (g.D.Device.disk l.initial.volume.device) l.initial.volume.numbers (HasBeginning l.initial.volume.tree l.file (g.R.Read.remaining l.initial.input)));
}

abbrev pub decreases-loop-offset : goal.decreases-loop-offset
decreases-loop-offset g l = (LARGEST_SIZE + 1) - l.offset
