use Rattle.vol_tree.proofs.Determines.{determines}
use Rattle.vol_tree.proofs.laws.paths_determine_the_tree.Goals as goal

pub returns : goal.returns
returns c = determines
