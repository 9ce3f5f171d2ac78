use Rattle.sandbox_args.proofs.CalledAlone.{found_row}
use Rattle.sandbox_args.proofs.table.row_of.Goals as goal

pub returns : goal.returns
returns c = found_row c.commands.result.now c.args.name.now c.row_in.result c.row_in.ensures c.commands.ensures
