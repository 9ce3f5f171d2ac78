use Rattle.std.proofs.Common.{arith}
use Rattle.observed_run.proofs.Trees.{found_below, found_all}
use Rattle.observed_run.proofs.stacks.FuelProfile.functions_at.Goals as goal

-- one function more
pub loop-at-preserved : goal.loop-at-preserved
loop-at-preserved c = (
  omega (arith, c.call_at-call.ensures.below, c.loop-at.invariant.0),
  found_below c.args.self.now.calls c.args.node c.loop-at.at c.call_at-call.result c.loop-at.functions.items _ (omega (arith, c.loop-at-test.true)) c.call_at-call.ensures.there c.in_ok-push.ensures.items c.loop-at.invariant.1,
)

-- the bottom is reached
pub returns : goal.returns
returns c = found_all c.args.self.now.calls c.args.node c.loop-at.at c.loop-at.functions.items (omega (arith, c.loop-at-test.false)) c.loop-at.invariant.1
