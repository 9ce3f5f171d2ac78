use Rattle.observed_run.proofs.Trees.{cut_grows, grows_none}
use Rattle.observed_run.proofs.Charging.{cut_off}
use Rattle.observed_run.proofs.slices.enter.Goals as goal

-- they couldn't be read
pub returns-clause-grows : goal.returns-clause-grows
returns-clause-grows g c = cut_grows _ _ _ (grows_none c.args.profile.now) c.cut.ensures

pub returns-clause-node : goal.returns-clause-node
returns-clause-node g c = cut_off c.args.profile.now _ _ _ c.cut.ensures c.bottom.ensures.is
