use Rattle.vol_tree.proofs.Grows.{created_grows}
use Rattle.vol_tree.proofs.laws.created_is_a_tree.Goals as goal

pub returns : goal.returns
returns c = created_grows
