use Rattle.vol_tree.proofs.OtherSectors.{other_sectors}
use Rattle.vol_tree.proofs.laws.the_volumes_sectors_decide.Goals as goal

pub returns : goal.returns
returns c = other_sectors
