use Rattle.std.proofs.Common.{refl, ◌∙◌, ◌-◌, length}
use Rattle.observed_run.proofs.Trees.{grows_none, grows_on, at_bottom, further, keeps_stack, cut_grows, cut_node, still_there}
use Rattle.observed_run.proofs.stacks.FuelProfile.enter.Goals as goal

-- no function yet
pub loop-depth-init : goal.loop-depth-init
loop-depth-init c = (grows_none _, c.bottom-node.ensures.there, at_bottom c.args.self.now c.args.functions.now _ c.bottom-node.ensures.is, refl)

-- one more
pub loop-depth-preserved : goal.loop-depth-preserved
loop-depth-preserved c =
    let so_far = c.loop-depth.invariant in
    (grows_on _ _ _ so_far.0 c.in-Some.ensures.grows, c.in-Some.ensures.there, further c.loop-depth.self c.called.new.self c.args.functions.now c.loop-depth.depth c.loop-depth.node c.in-Some.above _ c.in-Some.ensures.grows (search) refl refl c.in-Some.ensures.found so_far.2, c.in-Some.ensures.whole ∙ so_far.3)

-- no room for the next
pub returns-in-None-clause-grows : goal.returns-in-None-clause-grows
returns-in-None-clause-grows c = cut_grows _ _ _ (grows_on _ _ _ c.loop-depth.invariant.0 c.in-None.ensures.grows) c.cut.ensures

pub returns-in-None-clause-node : goal.returns-in-None-clause-node
returns-in-None-clause-node c =
    cut_node c.called.new.self c.cut.new.self c.args.functions.now c.loop-depth.node (length c.args.functions.now - c.loop-depth.depth) c.cut.ensures
    (keeps_stack _ _ c.in-None.ensures.grows _ _ c.loop-depth.invariant.2)

pub returns-in-None-clause-there : goal.returns-in-None-clause-there
returns-in-None-clause-there c = still_there c.loop-depth.self c.called.new.self c.cut.new.self c.loop-depth.node c.in-None.ensures.grows c.cut.ensures c.loop-depth.invariant.1
