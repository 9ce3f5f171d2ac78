use Rattle.std.proofs.Common.{refl}
use Rattle.sandbox_args.specs.CommandLine.{table_apps}
use Rattle.sandbox_args.proofs.table.commands.Goals as goal

-- the rows spell these commands
pub returns : goal.returns
unfolding table_apps
returns c = refl
