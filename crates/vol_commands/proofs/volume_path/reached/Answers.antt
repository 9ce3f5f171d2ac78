use Rattle.std.proofs.Common.{arith}
use Rattle.std.proofs.lemmas.Grind.{common_steps}
use Rattle.vol_commands.proofs.volume_path.reached.Goals as goal

pub returns-in-47-clause-answer : goal.returns-in-47-clause-answer
returns-in-47-clause-answer c = grind (arith, common_steps)

pub returns-in_default-clause-asked : goal.returns-in_default-clause-asked
returns-in_default-clause-asked c = grind (arith, common_steps)
