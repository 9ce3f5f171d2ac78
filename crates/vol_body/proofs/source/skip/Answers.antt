use Rattle.std.proofs.Common.{◌≡◌, ◌∙◌, ◌-◌, ◌++◌, List, length, take, drop, sym, ap, subst, arith}
use Rattle.std.proofs.lemmas.List.{length-drop}
use Rattle.vol_body.specs.declared.source.MemorySpan.{MemorySpan}
use Rattle.vol_body.specs.Source.{gathered, AreInside}
use Rattle.vol_body.proofs.Sources.{tail_of, some_span, next_enough, next_rest}
use Rattle.vol_body.proofs.source.skip.Goals as goal

pub first_span-first-requires-clause-some : goal.first_span-first-requires-clause-some
first_span-first-requires-clause-some c = some_span c.args.memory.now c.loop-first.first.now c.loop-first.spans.now c.loop-first.left c.loop-first-test.true c.loop-first.invariant.enough

pub slice_bounds-spans-start : goal.slice_bounds-spans-start
slice_bounds-spans-start c =
    let some = some_span c.args.memory.now c.loop-first.first.now c.loop-first.spans.now c.loop-first.left c.loop-first-test.true c.loop-first.invariant.enough in
    omega (arith, some)

pub loop-first-smaller : goal.loop-first-smaller
loop-first-smaller c =
    let some = some_span c.args.memory.now c.loop-first.first.now c.loop-first.spans.now c.loop-first.left c.loop-first-test.true c.loop-first.invariant.enough in
    let tail = ap length (tail_of c.loop-first.spans.now 1) in
    let left = length-drop 1 c.loop-first.spans.now in
    omega (arith, some, tail, left)

pub loop-first-preserved : goal.loop-first-preserved
loop-first-preserved c =
    let memory = c.args.memory.now in
    let first = c.loop-first.first.now in
    let spans = c.loop-first.spans.now in
    let next = c.first_span-first.result.now in
    let rest : List MemorySpan = take (length spans - 1) (drop 1 spans) in
    let tail : rest ≡ drop 1 spans = tail_of spans 1 in
    let before = c.loop-first.invariant in
    let is : gathered memory spans ≡ next ++ gathered memory rest = c.first_span-first.ensures.bytes ∙ ap (λ (l : List MemorySpan). next ++ gathered memory l) (sym tail) in
    record {
      enough = next_enough memory first next spans rest c.loop-first.left before.enough is;
      rest = next_rest memory first next _ spans rest c.loop-first.left c.loop-first-test.true before.rest is;
      inside = subst (λ (l : List MemorySpan). AreInside memory l) (sym tail) c.first_span-first.ensures.inside;
    }
