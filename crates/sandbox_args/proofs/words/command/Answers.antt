use Rattle.std.proofs.Common.{◌∙◌, ap, codes, map, true}
use Rattle.std.proofs.lemmas.Result.{IfOk-weaker}
use Rattle.clap.specs.Simple.{app_of_fields, on_top}
use Rattle.clap.specs.Words.{new_app}
use Rattle.sandbox_args.specs.CommandLine.{faults_app}
use Rattle.sandbox_args.specs.internal.Table.{app_for}
use Rattle.sandbox_args.proofs.CommandLines.{program_made}
use Rattle.sandbox_args.proofs.words.command.Goals as goal

-- the rows are the subcommands
pub returns : goal.returns
returns c =
    let made = ap app_of_fields c.after_help.ensures ∙ (ap app_of_fields c.about.ensures ∙ c.new.ensures.app) in
    let versioned = ap app_of_fields c.version.ensures ∙ ap (on_top (λ s. record s { has_version = true })) made in
    let required = ap app_of_fields c.subcommand_required-program.ensures ∙ ap (on_top (λ s. record s { subcommand_required = true })) versioned in
    let plain = ap (λ f. f.has_globals) c.after_help.ensures ∙ (ap (λ f. f.has_globals) c.about.ensures ∙ c.new.ensures.local) in
    let local = ap (λ f. f.has_globals) c.subcommand_required-program.ensures ∙ (ap (λ f. f.has_globals) c.version.ensures ∙ plain) in
    let top = on_top (λ s. record s { subcommand_required = true; has_version = true }) (new_app (codes "sandbox")) in
    IfOk-weaker c.subcommand.result _ _ (λ made added. program_made c.subcommand_required-program.result c.in_ok-with_subcommands.field-0 c.faults_command.result made top faults_app
    (map app_for c.args.rows.now) (required, local) c.in_ok-with_subcommands.ensures c.faults_command.ensures added)
    c.subcommand.ensures
