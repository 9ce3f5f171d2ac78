use Rattle.vol_tree.proofs.FilledMaps.{written_map}
use Rattle.vol_tree.proofs.laws.written_changes_one_file.Goals as goal

pub returns : goal.returns
returns c = written_map
