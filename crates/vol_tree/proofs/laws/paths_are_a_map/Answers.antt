use Rattle.vol_tree.proofs.Mapped.{path_map}
use Rattle.vol_tree.proofs.laws.paths_are_a_map.Goals as goal

pub returns : goal.returns
returns c = path_map
