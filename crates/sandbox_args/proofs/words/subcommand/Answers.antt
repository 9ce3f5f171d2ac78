use Rattle.std.proofs.Common.{◌∙◌, ap, map}
use Rattle.std.proofs.lemmas.Result.{IfOk-weaker}
use Rattle.clap.specs.Simple.{app_of_fields}
use Rattle.clap.specs.Words.{App, new_app}
use Rattle.sandbox_args.specs.CommandLine.{with_rules}
use Rattle.sandbox_args.specs.internal.Table.{rule_for}
use Rattle.sandbox_args.proofs.words.subcommand.Goals as goal

-- its arguments are those of the row
pub returns : goal.returns
returns c =
    let shape = ap app_of_fields c.after_help-command.ensures ∙ (ap app_of_fields c.about.ensures ∙ c.new.ensures.app) in
    let globals = ap (λ f. f.has_globals) c.after_help-command.ensures ∙ (ap (λ f. f.has_globals) c.about.ensures ∙ c.new.ensures.local) in
    IfOk-weaker c.with_arguments.result _ _ (λ made added. (added.shape ∙ (ap (λ (a : App). with_rules a (map rule_for c.rows.result.now)) shape ∙ ap (with_rules (new_app c.args.row.now.name.now)) c.rows.ensures), added.globals ∙ globals))
    c.with_arguments.ensures
