use Rattle.std.proofs.Common.{◌≡◌, List, ap, subst, arith, sym, ◌∙◌}
use Rattle.std.proofs.lemmas.List.{take_all}
use Rattle.vol_body.specs.declared.source.MemorySpan.{MemorySpan}
use Rattle.wasi_bodies.specs.Checks.{total}
use Rattle.wasi_bodies.specs.internal.checks.Buffers.{list_of}
use Rattle.wasi_bodies.proofs.checks.BufferArrays.{total_more}
use Rattle.wasi_bodies.proofs.streams.inputs.first_with_room.Goals as goal

pub loop-index-preserved : goal.loop-index-preserved
loop-index-preserved c =
    let more = total_more c.args.buffers.now c.loop-index.index (record { pointer = 0; len = 0 }) c.loop-index-test.true in
    omega (arith, more, c.loop-index.invariant, c.if-buffers-index-gt0.false)

pub returns : goal.returns
returns c = sym (ap (λ (l : List MemorySpan). total (list_of l)) (take_all c.loop-index.index c.args.buffers.now c.loop-index-test.false)) ∙ c.loop-index.invariant

pub returns-then-buffers-index-gt0 : goal.returns-then-buffers-index-gt0
returns-then-buffers-index-gt0 c = record { inside = c.loop-index-test.true; before = c.loop-index.invariant; room = c.if-buffers-index-gt0.true }
