use Rattle.std.proofs.Common.{◌≡◌, ◌∙◌, ◌-◌, ◌+◌, ◌++◌, ◌<◌, ◌≤◌, ℕ, List, length, take, drop, sym, ap, subst, arith}
use Rattle.std.proofs.lemmas.List.{length-drop, drop-append-le, take-append-le}
use Rattle.std.proofs.lemmas.Grind.{common_steps}
use Rattle.vol_body.specs.declared.source.MemorySpan.{MemorySpan}
use Rattle.vol_body.specs.Source.{gathered, AreInside}
use Rattle.vol_body.proofs.Sources.{tail_of, more_spans, filled_bytes, filled_rest}
use Rattle.vol_body.proofs.source.fill.Goals as goal

pub loop-filled-init : goal.loop-filled-init
loop-filled-init c =
    let first = c.args.first.now in
    let rest = gathered c.args.memory.now c.args.spans.now in
    let n = c.copy_some-taken.result in
    let within : n ≤ length first = omega (arith, c.copy_some-taken.ensures.count) in
    let same : n ≡ 0 + n = omega arith in
    record {
      taken = within;
      filled = omega (arith, c.copy_some-taken.ensures.count);
      used = λ more. omega (arith, c.copy_some-taken.ensures.count, more);
      bytes = ap (λ (k : ℕ). take k c.copy_some-taken.new.into) same ∙ (c.copy_some-taken.ensures.bytes ∙ sym (take-append-le n first rest within));
      rest = sym (drop-append-le n first rest within);
      inside = c.requires.inside;
    }

enough_spans : (c : goal.In-loop-filled) → 0 < length c.loop-filled.spans.now
enough_spans c =
    let before = c.loop-filled.invariant in
    let long : length c.loop-filled.into ≡ length c.args.into.now = c.loop-filled.auto.into ∙ c.copy_some-taken.auto.into in
    more_spans c.args.memory.now c.loop-filled.first.now (c.args.first.now ++ gathered c.args.memory.now c.args.spans.now) c.loop-filled.spans.now c.loop-filled.taken c.loop-filled.filled (length c.loop-filled.into)
    c.loop-filled-test.true (omega (arith, long, c.requires.enough)) (before.used c.loop-filled-test.true) before.rest

pub first_span-first-requires-clause-some : goal.first_span-first-requires-clause-some
first_span-first-requires-clause-some c = enough_spans c

pub slice_bounds-spans-start : goal.slice_bounds-spans-start
slice_bounds-spans-start c =
    let before = c.loop-filled.invariant in
    let long : length c.loop-filled.into ≡ length c.args.into.now = c.loop-filled.auto.into ∙ c.copy_some-taken.auto.into in
    let some : 0 < length c.loop-filled.spans.now = more_spans c.args.memory.now c.loop-filled.first.now (c.args.first.now ++ gathered c.args.memory.now c.args.spans.now) c.loop-filled.spans.now c.loop-filled.taken c.loop-filled.filled (length c.loop-filled.into)
    c.loop-filled-test.true (omega (arith, long, c.requires.enough)) (before.used c.loop-filled-test.true) before.rest in
    omega (arith, some)

pub loop-filled-smaller : goal.loop-filled-smaller
loop-filled-smaller c =
    let before = c.loop-filled.invariant in
    let long : length c.loop-filled.into ≡ length c.args.into.now = c.loop-filled.auto.into ∙ c.copy_some-taken.auto.into in
    let some : 0 < length c.loop-filled.spans.now = more_spans c.args.memory.now c.loop-filled.first.now (c.args.first.now ++ gathered c.args.memory.now c.args.spans.now) c.loop-filled.spans.now c.loop-filled.taken c.loop-filled.filled (length c.loop-filled.into)
    c.loop-filled-test.true (omega (arith, long, c.requires.enough)) (before.used c.loop-filled-test.true) before.rest in
    let tail = ap length (tail_of c.loop-filled.spans.now 1) in
    let left = length-drop 1 c.loop-filled.spans.now in
    omega (arith, some, tail, left)

pub loop-filled-preserved : goal.loop-filled-preserved
loop-filled-preserved c =
    let memory = c.args.memory.now in
    let first = c.loop-filled.first.now in
    let spans = c.loop-filled.spans.now in
    let next = c.first_span-first.result.now in
    let all = c.args.first.now ++ gathered memory c.args.spans.now in
    let rest : List MemorySpan = take (length spans - 1) (drop 1 spans) in
    let tail : rest ≡ drop 1 spans = tail_of spans 1 in
    let before = c.loop-filled.invariant in
    let is : gathered memory spans ≡ next ++ gathered memory rest = c.first_span-first.ensures.bytes ∙ ap (λ (l : List MemorySpan). next ++ gathered memory l) (sym tail) in
    let used = before.used c.loop-filled-test.true in
    let copied = c.copy_some-taken-in-loop-filled in
    let count = copied.ensures.count in
    let into = c.loop-filled.into in
    let into' = copied.new.into in
    let same : length into' ≡ length into = copied.auto.into in
    let long : length into ≡ length c.args.into.now = c.loop-filled.auto.into ∙ c.copy_some-taken.auto.into in
    let enough : length into ≤ length all = omega (arith, long, c.requires.enough) in
    record {
      taken = omega (arith, count);
      filled = omega (arith, count, same, c.loop-filled-test.true);
      used = λ more. omega (arith, count, same, more);
      bytes = filled_bytes memory first next all into into' spans rest c.loop-filled.taken c.loop-filled.filled copied.result c.loop-filled-test.true enough used before.rest is count before.bytes copied.ensures.bytes;
      rest = filled_rest memory first next all into into' spans rest c.loop-filled.taken c.loop-filled.filled copied.result c.loop-filled-test.true enough used before.rest is count;
      inside = subst (λ (l : List MemorySpan). AreInside memory l) (sym tail) c.first_span-first.ensures.inside;
    }

pub returns-clause-bytes : goal.returns-clause-bytes
returns-clause-bytes c = grind (arith, common_steps)

pub returns-clause-rest : goal.returns-clause-rest
returns-clause-rest c = grind (arith, common_steps)

pub slice_bounds-spans-count : goal.slice_bounds-spans-count
slice_bounds-spans-count c = grind (arith, common_steps)
