use Rattle.std.proofs.Common.{◌∙◌, ◌+◌, List, [], drop, get_or, refl, sym, map}
use Rattle.std.proofs.lemmas.List.{at_drop_all, at_drop_more}
use Rattle.clap.specs.Words.{app_of}
use Rattle.sandbox_args.specs.declared.table.Argument.{Argument}
use Rattle.sandbox_args.specs.declared.table.ArgumentKind.TheVariants.{Text}
use Rattle.sandbox_args.specs.CommandLine.{with_rules}
use Rattle.sandbox_args.specs.internal.Table.{rule_for}
use Rattle.sandbox_args.proofs.CommandLines.{argument_added}
use Rattle.sandbox_args.proofs.words.with_arguments.Goals as goal

pub loop-row-init : goal.loop-row-init
loop-row-init c = (refl, refl)

-- what is read past the end of the rows
abbrev none : Argument
none = record {
  name = record { ref_ptr = (0, 0); now = [] };
  takes = Text (record { ref_ptr = (0, 0); now = [] });
  help = record { ref_ptr = (0, 0); now = [] };
}

-- one argument more, one fewer to come
pub loop-row-preserved : goal.loop-row-preserved
loop-row-preserved c =
    let whole = λ (rows : List Argument). with_rules (app_of c.loop-row.command) (map rule_for rows) in
    let still = sym (at_drop_more whole c.args.rows.now c.loop-row.row-index none c.loop-row-test.true) ∙ c.loop-row.invariant.0 in
    let added = argument_added c.loop-row.command c.in_ok-command.command c.argument.result _ (rule_for (get_or c.args.rows.now c.loop-row.row-index none)) (map rule_for (drop (c.loop-row.row-index + 1) c.args.rows.now))
    c.in_ok-command.ensures c.argument.ensures still in
    (added.0, added.1 ∙ c.loop-row.invariant.1)

-- no more are to come
pub returns : goal.returns
returns c =
    let whole = λ (rows : List Argument). with_rules (app_of c.loop-row.command) (map rule_for rows) in
    record {
      shape = sym (at_drop_all whole c.args.rows.now c.loop-row.row-index c.loop-row-test.false) ∙ c.loop-row.invariant.0;
      globals = c.loop-row.invariant.1;
    }
