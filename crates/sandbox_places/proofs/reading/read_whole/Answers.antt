use Rattle.std.proofs.Common.{◌≡◌, ◌≤◌, length, inl, inr, arith, rules}
use Rattle.stream_answers.specs.Pieces.{AtLast, nothing, gives}
use Rattle.sandbox_places.proofs.Wholly.{at_end, in_all, passed}
use Rattle.sandbox_places.proofs.reading.read_whole.Goals as goal

pub loop-left-init : goal.loop-left-init
loop-left-init g c = record { gave = search (rules, nothing); count = search rules; piece = search rules }

pub loop-left-preserved : goal.loop-left-preserved
loop-left-preserved g c =
    let came = c.in_ok-count.ensures.gave in
    let whole : length c.read_more.new.piece ≡ c.min-room.result = search rules in
    let few : c.in_ok-count.count ≤ c.loop-left.left = omega (arith, whole, c.in_ok-count.ensures.few, c.min-room.ensures) in
    record {
      gave = gives _ came.0 c.loop-left.invariant.gave came.2 came.3;
      count = in_all c.loop-left.bytes.items came.0 c.read_more.new.bytes.items c.loop-left.left c.in_ok-count.count c.args.most came.3 came.1 c.loop-left.invariant.count few;
      piece = search rules;
    }

-- the end
pub returns-then-count-eq0-clause-whole : goal.returns-then-count-eq0-clause-whole
returns-then-count-eq0-clause-whole g c =
    let came = c.in_ok-count.ensures.gave in
    inr (at_end (AtLast g.R.Inlet.gave g.R.Inlet.refused) _ c.loop-left.bytes.items c.loop-left.input came.0 c.read_more.new.bytes.items c.read_more.new.input c.in_ok-count.count
    came.1 c.if-count-eq0.true came.2 came.3 c.loop-left.invariant.gave)

pub returns-clause-whole : goal.returns-clause-whole
returns-clause-whole g c = inl (c.loop-left.invariant.gave, omega (arith, c.loop-left.invariant.count, c.loop-left-test.false))

-- a read that was refused, after what came before
pub returns-in_err-count-clause-refused : goal.returns-in_err-count-clause-refused
returns-in_err-count-clause-refused g c =
    let e = c.in_err-count.field-0.0 in
    passed _ c.from_residual-in_err-count.result e c.from_residual-in_err-count.ensures.1 (elim c.in_err-count.ensures.refused [
      | inl memory ↦ inl memory
      | inr stopped ↦ inr (c.loop-left.bytes.items, c.loop-left.input, c.loop-left.invariant.gave, stopped)
    ])
