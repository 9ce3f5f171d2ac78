use Rattle.vol_tree.proofs.OneTree.{one_volume}
use Rattle.vol_tree.proofs.laws.one_tree.Goals as goal

pub returns : goal.returns
returns c = one_volume
