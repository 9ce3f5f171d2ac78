use Rattle.std.proofs.Common.{sym, ◌∙◌}
use Rattle.wasm_interp.specs.Frames.{frames_of}
use Rattle.observed_run.proofs.Room.{none_told, one_told, all_told, most_told}
use Rattle.invoked_run.proofs.ending.tell_frames.Goals as goal

pub loop-index-init : goal.loop-index-init
loop-index-init g c = none_told _ _

-- one more
pub loop-index-preserved : goal.loop-index-preserved
loop-index-preserved g c =
    one_told (frames_of c.args.instance.now.machine) _ _ _ c.in-Some.frame c.loop-index.invariant (sym c.frame.ensures ∙ c.in-Some.is) c.put.ensures.len c.put.ensures.there c.put.ensures.elsewhere

-- all of them
pub returns-in-None : goal.returns-in-None
returns-in-None g c = all_told (frames_of c.args.instance.now.machine) _ _ c.loop-index.invariant (sym c.frame.ensures ∙ c.in-None.is) c.loop-index-test.true

-- more than can be counted
pub returns : goal.returns
returns g c = most_told (frames_of c.args.instance.now.machine) _ _ c.loop-index.invariant c.loop-index-test.false
