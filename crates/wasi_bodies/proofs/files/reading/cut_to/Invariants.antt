use Rattle.std.proofs.Common.{◌≡◌, ◌++◌, take, drop}
use Rattle.wasi_bodies.specs.internal.checks.Buffers.{list_of}
use Rattle.wasi_bodies.specs.internal.files.Reading.{limited_buffers}
use Rattle.wasi_bodies.proofs.files.reading.cut_to.Given as goal

abbrev pub invariant-loop-index : goal.invariant-loop-index
invariant-loop-index l = record {
  rest : drop l.index l.buffers ≡ drop l.index l.initial.buffers;
  done : list_of (take l.index l.buffers) ++ limited_buffers l.left (list_of (drop l.index l.initial.buffers)) ≡ limited_buffers l.len (list_of l.initial.buffers);
}
