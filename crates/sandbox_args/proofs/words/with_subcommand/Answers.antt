use Rattle.std.proofs.Common.{◌≡◌, List, [], refl}
use Rattle.std.proofs.lemmas.Result.{IfOk-weaker}
use Rattle.sandbox_args.specs.internal.Table.{app_for}
use Rattle.sandbox_args.proofs.CommandLines.{subcommand_added}
use Rattle.sandbox_args.proofs.words.with_subcommand.Goals as goal

-- the command of the row is added
pub returns-in-Ok : goal.returns-in-Ok
returns-in-Ok c =
    IfOk-weaker c.subcommand-in-Ok.result _ _ (λ made added.
    let one = subcommand_added c.args.command made c.in-Ok.made _ (app_for c.args.row.now) [] added c.in-Ok.ensures refl in
    record { shape = one.0; globals = one.1 })
    c.subcommand-in-Ok.ensures
