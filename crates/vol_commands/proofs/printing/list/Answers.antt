use Rattle.std.proofs.Common.{arith}
use Rattle.std.proofs.lemmas.Grind.{common_steps}
use Rattle.stream_answers.specs.Hearing.{Moves, Refuses, stays}
use Rattle.vol_tar.proofs.Blamed.{hears_none}
use Rattle.vol_commands.specs.Blame.{blames_stream}
use Rattle.vol_commands.specs.declared.failure.Failure.TheVariants as failure
use Rattle.vol_commands.specs.Listing.{listing}
use Rattle.vol_commands.specs.Tasks.{directory_named}
use Rattle.vol_commands.proofs.Blamed.{blame}
use Rattle.vol_commands.proofs.Printed.{walk_refused}
use Rattle.vol_commands.proofs.printing.list.Goals as goal

pub returns-clause-asked : goal.returns-clause-asked
returns-clause-asked c = grind (arith, common_steps)

pub returns-in_err-directory-clause-prints : goal.returns-in_err-directory-clause-prints
returns-in_err-directory-clause-prints g c h =
    walk_refused (directory_named c.args.volume.now.tree c.args.path.now) (listing c.args.form c.args.volume.now.tree) (g.W.Write.contents c.args.out.now) c.in_err-directory.field-0.0 c.from_residual.result
    (c.in_err-directory.ensures.answer h) c.from_residual.ensures.1

-- ---- what the output refused

pub returns-clause-heard : goal.returns-clause-heard
returns-clause-heard g c = c.print_entries.ensures.heard

pub returns-in_err-directory-clause-heard : goal.returns-in_err-directory-clause-heard
returns-in_err-directory-clause-heard g c =
    hears_none (Moves g.W.Outlet.took) (Refuses g.W.Outlet.took g.W.Outlet.refused) (blames_stream c.from_residual.result)
    (blame c.from_residual.result (failure.Tree c.in_err-directory.field-0.0) c.from_residual.ensures.1) _ _ stays
