use Rattle.vol_tree.proofs.Mapped.{directory_removed_map}
use Rattle.vol_tree.proofs.laws.removed_directory_takes_one_path.Goals as goal

pub returns : goal.returns
returns c = directory_removed_map
