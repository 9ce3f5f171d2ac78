-- What the kit's model of clap says of the rows of the tables in `crates/sandbox_args/src/table.rt`. `rule_for` and
-- `app_for` map a row to the model, and `AddsArguments` and `AddsSubcommands` say what rows add to a command.
use Rattle.std.specs.Prelude.{◌≡◌, List, [], ◌∷◌, Option, codes, find, true}
use Rattle.clap.specs.declared.builder.action.ArgAction.{ArgAction}
use Rattle.clap.specs.declared.builder.action.ArgAction.TheVariants.{Set, Append, SetTrue}
use Rattle.clap.specs.Faults.{fault_of, is_simple_and_free}
use Rattle.clap.specs.Simple.{label_of, on_top}
use Rattle.clap.specs.Walk.{answers_to}
use Rattle.clap.specs.Words.{App, Rule, app_of, new_app, subcommand_of, with_subcommand}
use Rattle.clap.specs.declared.builder.command.Command.{Command}
use Rattle.clap.specs.declared.builder.command.Command.TheViews.{out-Command as fields_of}
use Rattle.sandbox_args.specs.declared.table.ArgumentKind.TheVariants as takes
use Rattle.sandbox_args.specs.declared.table.ArgumentKind.{ArgumentKind}
use Rattle.sandbox_args.specs.declared.table.Argument.{Argument}
use Rattle.sandbox_args.specs.declared.table.Arguments.TheVariants as rows
use Rattle.sandbox_args.specs.declared.table.Arguments.{Arguments}
use Rattle.sandbox_args.specs.declared.table.Subcommand.{Subcommand}
use Rattle.sandbox_args.specs.Request.{Text}
use Rattle.sandbox_args.specs.CommandLine.{app_with, faults_app, flag_rule, number_rule, number_word_rule, program, run_rules, short_flag_rule, text_rule, texts_rule, u32_numbers, u64_numbers, with_apps, with_rules, word_rule, words_rule}

-- the argument of this name that takes this
abbrev pub rule_that : Text → ArgumentKind → Rule
rule_that name (takes.Text value) = text_rule name
rule_that name (takes.Texts value) = texts_rule name
rule_that name takes.Long = number_rule name u64_numbers
rule_that name takes.Number = number_rule name u32_numbers
rule_that name takes.Flag = flag_rule name
rule_that name (takes.ShortFlag letter) = short_flag_rule name letter
rule_that name takes.Word = word_rule name
rule_that name takes.NumberWord = number_word_rule name
rule_that name takes.Words = words_rule name

-- what the parser does with it
abbrev pub action_for : ArgumentKind → ArgAction
action_for (takes.Text value) = Set
action_for (takes.Texts value) = Append
action_for takes.Long = Set
action_for takes.Number = Set
action_for takes.Flag = SetTrue
action_for (takes.ShortFlag letter) = SetTrue
action_for takes.Word = Set
action_for takes.NumberWord = Set
action_for takes.Words = Append

abbrev pub rule_for : Argument → Rule
rule_for argument = rule_that argument.name.now argument.takes

-- the arguments of these rows
abbrev pub rules_for : Arguments → List Rule
rules_for rows.Run = run_rules
rules_for rows.Put = word_rule (codes "FILE") ∷ word_rule (codes "PATH") ∷ flag_rule (codes "whole") ∷ []
rules_for rows.Module = word_rule (codes "MODULE") ∷ flag_rule (codes "floats") ∷ []
rules_for rows.Format = word_rule (codes "FILE") ∷ number_word_rule (codes "SECTORS") ∷ number_word_rule (codes "SLOTS") ∷ flag_rule (codes "large") ∷ flag_rule (codes "huge") ∷ flag_rule (codes "new") ∷ []
rules_for rows.Volume = word_rule (codes "FILE") ∷ []
rules_for rows.Upgrade = word_rule (codes "FILE") ∷ flag_rule (codes "huge") ∷ []
rules_for rows.Path = word_rule (codes "FILE") ∷ word_rule (codes "PATH") ∷ []
rules_for rows.List = word_rule (codes "FILE") ∷ word_rule (codes "PATH") ∷ flag_rule (codes "escape") ∷ flag_rule (codes "null") ∷ []
rules_for rows.Move = word_rule (codes "FILE") ∷ word_rule (codes "FROM") ∷ word_rule (codes "TO") ∷ []
rules_for rows.Remove = word_rule (codes "FILE") ∷ word_rule (codes "PATH") ∷ short_flag_rule (codes "recursive") 114 ∷ []

abbrev pub app_for : Subcommand → App
app_for row = app_with row.name.now (rules_for row.arguments)

-- the new command is the old one with these arguments more
pub record AddsArguments (old : Command) (rules : List Rule) (new : Command) : Type 0 where
  pub shape : app_of new ≡ with_rules (app_of old) rules
  pub globals : (fields_of new).has_globals ≡ (fields_of old).has_globals

-- and with these subcommands more
pub record AddsSubcommands (old : Command) (apps : List App) (new : Command) : Type 0 where
  pub shape : app_of new ≡ with_apps (app_of old) apps
  pub globals : (fields_of new).has_globals ≡ (fields_of old).has_globals

-- the first of these commands that a word names
abbrev pub app_named : Text → List App → Option App
app_named name apps = find (λ a. answers_to name (label_of a.top)) apps

-- the program with these commands, and `faults`
abbrev pub program_with : List App → App
program_with apps = with_subcommand (with_apps (on_top (λ s. record s { subcommand_required = true; has_version = true }) (new_app (codes "sandbox"))) apps) faults_app.top

-- with these commands alone the program answers these words as with all
pub record AnswersAsAll (apps : List App) (words : List Text) : Type 0 where
  pub free : is_simple_and_free (program_with apps) ≡ true
  pub subcommand : subcommand_of (program_with apps) words ≡ subcommand_of program words
  pub fault : fault_of (program_with apps) words ≡ fault_of program words
