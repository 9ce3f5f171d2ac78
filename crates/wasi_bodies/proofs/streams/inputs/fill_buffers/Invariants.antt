use Rattle.std.proofs.Common.{◌≡◌, ◌<◌, ◌≤◌, ◌*◌, ◌^◌, length, take, true, false}
use Rattle.std.specs.Io.KnownBytes.{IsAtEnd}
use Rattle.stream_answers.specs.Hearing.{Goes, Moves}
use Rattle.wasi_bodies.specs.Checks.{total}
use Rattle.wasi_bodies.specs.internal.checks.Buffers.{list_of}
use Rattle.wasi_bodies.specs.internal.streams.Inputs.{Dealt}
use Rattle.wasi_bodies.proofs.streams.inputs.fill_buffers.Given as goal

abbrev pub invariant-loop-buffer : goal.invariant-loop-buffer
invariant-loop-buffer g l = record {
  long : length l.memory ≡ length l.initial.memory;
  small : l.count ≤ l.buffer-index * 2 ^ 32;
  dealt : Dealt (g.R.Read.remaining l.initial.input.reader) (g.R.Read.remaining l.input.reader) l.initial.memory (list_of (take l.buffer-index l.buffers)) l.memory l.count;
  full : l.input.ended ≡ false → l.count ≡ total (list_of (take l.buffer-index l.buffers));
  short : l.initial.input.ended ≡ false → l.input.ended ≡ true → l.count < total (list_of (take l.buffer-index l.buffers));
  none : l.initial.input.ended ≡ true → (l.count ≡ 0) × (l.input.ended ≡ true);
  end : l.input.ended ≡ true → IsAtEnd (g.R.Read.remaining l.input.reader);
  mark : l.input.failed ≡ l.initial.input.failed;
  heard : Goes (Moves g.R.Inlet.gave) l.initial.input.reader l.input.reader;
}
