use Rattle.std.proofs.Common.{arith}
use Rattle.std.proofs.lemmas.Grind.{common_steps}
use Rattle.path_walk.proofs.path.has_long_part.Goals as goal

pub returns-else-found-2 : goal.returns-else-found-2
returns-else-found-2 c = grind (arith, common_steps)

pub loop-byte-preserved : goal.loop-byte-preserved
loop-byte-preserved c = grind (arith, common_steps)
