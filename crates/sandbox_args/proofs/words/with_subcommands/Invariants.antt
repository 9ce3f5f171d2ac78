use Rattle.std.proofs.Common.{◌≡◌, drop, map}
use Rattle.clap.specs.Words.{app_of}
use Rattle.clap.specs.declared.builder.command.Command.TheViews.{out-Command as fields_of}
use Rattle.sandbox_args.specs.CommandLine.{with_apps}
use Rattle.sandbox_args.specs.internal.Table.{app_for}
use Rattle.sandbox_args.proofs.words.with_subcommands.Given as goal

-- with the subcommands that are still to come it is what it is to be
abbrev pub invariant-loop-row : goal.invariant-loop-row
invariant-loop-row l = (with_apps (app_of l.command) (map app_for (drop l.row-index l.rows)) ≡ with_apps (app_of l.fn.command) (map app_for l.rows))
    × ((fields_of l.command).has_globals ≡ (fields_of l.fn.command).has_globals)
