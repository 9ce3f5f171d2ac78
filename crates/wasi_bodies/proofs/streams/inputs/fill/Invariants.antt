use Rattle.std.proofs.Common.{◌≡◌, ◌≤◌, ◌-◌, length, false}
use Rattle.stream_answers.specs.Hearing.{Goes, Moves}
use Rattle.wasi_bodies.specs.internal.streams.Inputs.{Came}
use Rattle.wasi_bodies.proofs.streams.inputs.fill.Given as goal

abbrev pub invariant-loop-filled : goal.invariant-loop-filled
invariant-loop-filled g l = record {
  long : length l.memory ≡ length l.initial.memory;
  few : l.filled ≤ l.len;
  goes_on : l.input.ended ≡ false;
  mark : l.input.failed ≡ l.initial.input.failed;
  heard : Goes (Moves g.R.Inlet.gave) l.initial.input.reader l.input.reader;
  came : Came (g.R.Read.remaining l.initial.input.reader) (g.R.Read.remaining l.input.reader) l.initial.memory l.start l.len l.memory l.filled;
}

abbrev pub decreases-loop-filled : goal.decreases-loop-filled
decreases-loop-filled g l = l.len - l.filled
