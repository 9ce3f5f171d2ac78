use Rattle.std.proofs.Common.{drop}
use Rattle.stream_answers.specs.Hearing.{Goes, Moves}
use Rattle.wasi_bodies.specs.Checks.{gathered}
use Rattle.wasi_bodies.specs.internal.checks.Buffers.{list_of}
use Rattle.wasi_bodies.proofs.streams.WriterBytes.{Begun}
use Rattle.wasi_bodies.proofs.streams.outputs.hand_buffers.Given as goal

abbrev pub invariant-loop-buffer : goal.invariant-loop-buffer
invariant-loop-buffer g l = record {
  begun : Begun (g.W.Write.contents l.initial.writer) (g.W.Write.contents l.writer)
      (gathered l.memory (list_of l.buffers)) (gathered l.memory (list_of (drop l.buffer-index l.buffers)));
  heard : Goes (Moves g.W.Outlet.took) l.initial.writer l.writer;
}
