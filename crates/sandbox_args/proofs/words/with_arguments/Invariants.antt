use Rattle.std.proofs.Common.{◌≡◌, drop, map}
use Rattle.clap.specs.Words.{app_of}
use Rattle.clap.specs.declared.builder.command.Command.TheViews.{out-Command as fields_of}
use Rattle.sandbox_args.specs.CommandLine.{with_rules}
use Rattle.sandbox_args.specs.internal.Table.{rule_for}
use Rattle.sandbox_args.proofs.words.with_arguments.Given as goal

-- with the arguments that are still to come it is what it is to be
abbrev pub invariant-loop-row : goal.invariant-loop-row
invariant-loop-row l = (with_rules (app_of l.command) (map rule_for (drop l.row-index l.rows)) ≡ with_rules (app_of l.fn.command) (map rule_for l.rows))
    × ((fields_of l.command).has_globals ≡ (fields_of l.fn.command).has_globals)
