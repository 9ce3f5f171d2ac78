use Rattle.std.proofs.Common.{arith}
use Rattle.wasi_bodies.proofs.checks.BufferArrays.{total_more}
use Rattle.wasi_bodies.proofs.checks.buffers.total_len.Goals as goal

pub loop-buffer-preserved : goal.loop-buffer-preserved
loop-buffer-preserved c =
    let more = total_more c.args.buffers.now c.loop-buffer.buffer-index (record { pointer = 0; len = 0 }) c.loop-buffer-test.true in
    record { small = omega arith; sum = omega (arith, more, c.loop-buffer.invariant.sum) }
