use Rattle.vol_tree.proofs.FilledMaps.{resized_map}
use Rattle.vol_tree.proofs.laws.resized_changes_one_file.Goals as goal

pub returns : goal.returns
returns c = resized_map
