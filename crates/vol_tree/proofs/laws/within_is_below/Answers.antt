use Rattle.vol_tree.proofs.Within.{within_below}
use Rattle.vol_tree.proofs.laws.within_is_below.Goals as goal

pub returns : goal.returns
returns c = within_below
