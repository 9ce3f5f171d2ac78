use Rattle.std.proofs.Common.{arith}
use Rattle.std.proofs.lemmas.Grind.{common_steps}
use Rattle.vol_body.proofs.writing_image.image_of_block.Goals as goal

pub returns-clause-image : goal.returns-clause-image
returns-clause-image c = grind (arith, common_steps)

pub read-requires : goal.read-requires
read-requires c = grind (arith, common_steps)
