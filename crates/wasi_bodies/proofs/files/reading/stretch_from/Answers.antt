use Rattle.std.proofs.Common.{arith}
use Rattle.std.proofs.lemmas.Grind.{common_steps}
use Rattle.vol_body.specs.declared.source.MemorySpan.{MemorySpan}
use Rattle.wasi_bodies.proofs.files.OverlappingBuffers.{covered_by}
use Rattle.wasi_bodies.proofs.files.reading.stretch_from.Goals as goal

pub returns-then-at-past : goal.returns-then-at-past
returns-then-at-past c =
    let d : MemorySpan = record { pointer = 0; len = 0 } in
    record {
      some = omega (arith, c.min.ensures);
      within = omega (arith, c.min.ensures);
      each = λ k le lt. covered_by k c.args.later.now c.loop-buffer.buffer-index d c.loop-buffer-test.true (omega arith) (omega (arith, c.min.ensures));
    }

pub loop-buffer-preserved : goal.loop-buffer-preserved
loop-buffer-preserved c = grind (arith, common_steps)
