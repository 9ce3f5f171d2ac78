use Rattle.std.proofs.Common.{◌≡◌, ◌+◌, ◌-◌, List, ℕ, take, drop, get_or, ap, subst, arith}
use Rattle.stream_answers.specs.Hearing.{stays}
use Rattle.stream_answers.proofs.Hearing.{then}
use Rattle.wasm_store.specs.Bytes.{bytes_at}
use Rattle.wasi_bodies.specs.Checks.{gathered}
use Rattle.wasi_bodies.specs.internal.checks.Buffers.{list_of}
use Rattle.wasi_bodies.proofs.checks.BufferArrays.{inside_at, gathered_from}
use Rattle.wasi_bodies.proofs.streams.WriterBytes.{Begun, begun, begun_more, begun_fails}
use Rattle.wasi_bodies.proofs.streams.outputs.hand_buffers.Goals as goal

-- what stands in a buffer
buffer_bytes : (m : List ℕ) (a n : ℕ) → take ((a + n) - a) (drop a m) ≡ bytes_at m a n
buffer_bytes m a n = let e : (a + n) - a ≡ n = omega arith in ap (λ (k : ℕ). take k (drop a m)) e

pub slice_bounds-bytes-end : goal.slice_bounds-bytes-end
slice_bounds-bytes-end g c =
    let inside = inside_at c.args.memory.now c.args.buffers.now c.loop-buffer.buffer-index (record { pointer = 0; len = 0 }) c.requires c.loop-buffer-test.true in
    omega (arith, inside)

-- the writer failed in this buffer
pub returns-in-Err-clause-some : goal.returns-in-Err-clause-some
returns-in-Err-clause-some g c =
    let m = c.args.memory.now in
    let bs = c.args.buffers.now in
    let i = c.loop-buffer.buffer-index in
    let b = get_or bs i (record { pointer = 0; len = 0 }) in
    let bytes : List ℕ = take ((b.pointer + b.len) - b.pointer) (drop b.pointer m) in
    let contents = g.W.Write.contents in
    let here = gathered_from m bytes bs i (record { pointer = 0; len = 0 }) c.loop-buffer-test.true (buffer_bytes m b.pointer b.len) in
    begun_fails (contents c.args.writer.now) (contents c.loop-buffer.writer) (contents c.hand.new.writer) (gathered m (list_of bs)) bytes (gathered m (list_of (drop (i + 1) bs)))
    (subst (λ (rest : List ℕ). Begun (contents c.args.writer.now) (contents c.loop-buffer.writer) (gathered m (list_of bs)) rest) here c.loop-buffer.invariant.begun) c.in-Err.ensures.some

-- this buffer was written
pub loop-buffer-preserved : goal.loop-buffer-preserved
loop-buffer-preserved g c =
    let m = c.args.memory.now in
    let bs = c.args.buffers.now in
    let i = c.loop-buffer.buffer-index in
    let b = get_or bs i (record { pointer = 0; len = 0 }) in
    let bytes : List ℕ = take ((b.pointer + b.len) - b.pointer) (drop b.pointer m) in
    let contents = g.W.Write.contents in
    let here = gathered_from m bytes bs i (record { pointer = 0; len = 0 }) c.loop-buffer-test.true (buffer_bytes m b.pointer b.len) in
    record {
      begun =
          begun_more (contents c.args.writer.now) (contents c.loop-buffer.writer) (contents c.hand.new.writer) (gathered m (list_of bs)) bytes (gathered m (list_of (drop (i + 1) bs)))
          (subst (λ (rest : List ℕ). Begun (contents c.args.writer.now) (contents c.loop-buffer.writer) (gathered m (list_of bs)) rest) here c.loop-buffer.invariant.begun) c.in_default.ensures.all;
      heard = then c.loop-buffer.invariant.heard c.in_default.ensures.heard;
    }

pub loop-buffer-init : goal.loop-buffer-init
loop-buffer-init g c = record { begun = begun _ _; heard = stays }

pub returns-in-Err-clause-heard : goal.returns-in-Err-clause-heard
returns-in-Err-clause-heard g c = let told = c.in-Err.ensures.heard in (told.0, then c.loop-buffer.invariant.heard told.1, told.2)
