use Rattle.std.proofs.Common.{arith}
use Rattle.std.proofs.lemmas.Grind.{common_steps}
use Rattle.vol_tree.specs.Calls.{bytes_at}
use Rattle.stream_answers.specs.Hearing.{Moves, Refuses, stays}
use Rattle.vol_tar.proofs.Blamed.{hears_none}
use Rattle.vol_commands.specs.Blame.{blames_stream}
use Rattle.vol_commands.specs.declared.failure.Failure.TheVariants.{Tree}
use Rattle.vol_commands.specs.Tasks.{file_named}
use Rattle.vol_commands.proofs.Blamed.{blame}
use Rattle.vol_commands.proofs.Printed.{walk_refused}
use Rattle.vol_commands.proofs.printing.get.Goals as goal

pub returns-clause-asked : goal.returns-clause-asked
returns-clause-asked c = grind (arith, common_steps)

pub returns-clause-prints : goal.returns-clause-prints
returns-clause-prints c = grind (arith, common_steps)

-- the path names no file
pub returns-in_err-file-clause-prints : goal.returns-in_err-file-clause-prints
returns-in_err-file-clause-prints g c h =
    walk_refused (file_named c.args.volume.now.tree c.args.path.now) (bytes_at c.args.volume.now.tree) (g.W.Write.contents c.args.out.now) c.in_err-file.field-0.0 c.from_residual.result
    (c.in_err-file.ensures.answer h) c.from_residual.ensures.1

-- ---- what the output refused

pub returns-clause-heard : goal.returns-clause-heard
returns-clause-heard g c = c.print_bytes.ensures.heard

pub returns-in_err-file-clause-heard : goal.returns-in_err-file-clause-heard
returns-in_err-file-clause-heard g c =
    hears_none (Moves g.W.Outlet.took) (Refuses g.W.Outlet.took g.W.Outlet.refused) (blames_stream c.from_residual.result) (blame c.from_residual.result (Tree c.in_err-file.field-0.0) c.from_residual.ensures.1) _ _ stays
