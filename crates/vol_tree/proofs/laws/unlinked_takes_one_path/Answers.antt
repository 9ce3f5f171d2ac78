use Rattle.vol_tree.proofs.Mapped.{unlinked_map}
use Rattle.vol_tree.proofs.laws.unlinked_takes_one_path.Goals as goal

pub returns : goal.returns
returns c = unlinked_map
