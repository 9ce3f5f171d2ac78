use Rattle.std.proofs.Common.{arith}
use Rattle.std.proofs.lemmas.Grind.{common_steps}
use Rattle.vol_commands.proofs.volume_path.serial_named.Goals as goal

pub returns-in-Found-default-clause-asked : goal.returns-in-Found-default-clause-asked
returns-in-Found-default-clause-asked c = grind (arith, common_steps)

pub returns-in-Missing-default-clause-asked : goal.returns-in-Missing-default-clause-asked
returns-in-Missing-default-clause-asked c = grind (arith, common_steps)
