use Rattle.std.proofs.Common.{rules}
use Rattle.vol_tree.proofs.volume.Volume.stats.Goals as goal

pub returns : goal.returns
returns g c = search rules
