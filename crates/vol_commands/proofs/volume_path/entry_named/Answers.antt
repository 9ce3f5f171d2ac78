use Rattle.std.proofs.Common.{arith}
use Rattle.std.proofs.lemmas.Grind.{common_steps}
use Rattle.vol_commands.proofs.volume_path.entry_named.Goals as goal

pub returns-clause-asked : goal.returns-clause-asked
returns-clause-asked c = grind (arith, common_steps)

pub returns-in_err-is_directory-clause-asked : goal.returns-in_err-is_directory-clause-asked
returns-in_err-is_directory-clause-asked c = grind (arith, common_steps)
