use Rattle.std.proofs.Common.{arith}
use Rattle.std.proofs.lemmas.Grind.{common_steps}
use Rattle.vol_tree.proofs.volume.Volume.into_device.Goals as goal

pub returns : goal.returns
returns c = grind (arith, common_steps)
