use Rattle.std.proofs.Common.{length}
use Rattle.stream_answers.specs.Hearing.{Goes, Moves}
use Rattle.wasi_bodies.proofs.streams.WriterBytes.{Begun}
use Rattle.wasi_bodies.proofs.streams.outputs.hand.Given as goal

abbrev pub invariant-loop-rest : goal.invariant-loop-rest
invariant-loop-rest g l = record {
  begun : Begun (g.W.Write.contents l.initial.writer) (g.W.Write.contents l.writer) l.bytes l.rest;
  heard : Goes (Moves g.W.Outlet.took) l.initial.writer l.writer;
}

abbrev pub decreases-loop-rest : goal.decreases-loop-rest
decreases-loop-rest g l = length l.rest
