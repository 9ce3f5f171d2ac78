use Rattle.std.proofs.Common.{◌∙◌, ◌+◌, List, [], ap, drop, get_or, refl, sym, map}
use Rattle.std.proofs.lemmas.List.{at_drop_all, at_drop_more}
use Rattle.clap.specs.Words.{App, app_of}
use Rattle.sandbox_args.specs.declared.table.Arguments.TheVariants.{Run}
use Rattle.sandbox_args.specs.declared.table.Subcommand.{Subcommand}
use Rattle.sandbox_args.specs.CommandLine.{with_apps}
use Rattle.sandbox_args.specs.internal.Table.{app_for}
use Rattle.sandbox_args.proofs.words.with_subcommands.Goals as goal

pub loop-row-init : goal.loop-row-init
loop-row-init c = (refl, refl)

-- what is read past the end of the rows
abbrev none : Subcommand
none = record {
  name = record { ref_ptr = (0, 0); now = [] };
  about = record { ref_ptr = (0, 0); now = [] };
  arguments = Run;
}

-- one subcommand more, one fewer to come
pub loop-row-preserved : goal.loop-row-preserved
loop-row-preserved c =
    let whole = λ (rows : List Subcommand). with_apps (app_of c.loop-row.command) (map app_for rows) in
    let still = sym (at_drop_more whole c.args.rows.now c.loop-row.row-index none c.loop-row-test.true) ∙ c.loop-row.invariant.0 in
    let rest = map app_for (drop (c.loop-row.row-index + 1) c.args.rows.now) in
    (ap (λ (a : App). with_apps a rest) c.in_ok-command.ensures.shape ∙ still, c.in_ok-command.ensures.globals ∙ c.loop-row.invariant.1)

-- no more are to come
pub returns : goal.returns
returns c =
    let whole = λ (rows : List Subcommand). with_apps (app_of c.loop-row.command) (map app_for rows) in
    record {
      shape = sym (at_drop_all whole c.args.rows.now c.loop-row.row-index c.loop-row-test.false) ∙ c.loop-row.invariant.0;
      globals = c.loop-row.invariant.1;
    }
