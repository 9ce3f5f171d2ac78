use Rattle.vol_tree.proofs.RenamedMaps.{renamed_map}
use Rattle.vol_tree.proofs.laws.renamed_moves_paths.Goals as goal

pub returns : goal.returns
returns c = renamed_map
