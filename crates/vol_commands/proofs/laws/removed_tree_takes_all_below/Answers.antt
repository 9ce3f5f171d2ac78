use Rattle.vol_commands.proofs.RemovedMap.{tree_removed_map}
use Rattle.vol_commands.proofs.laws.removed_tree_takes_all_below.Goals as goal

pub returns : goal.returns
returns c = tree_removed_map
