-- What is kept of a run's words until its settings are made: arguments, environment, directories. `supplied` promises
-- `AreSupplies` and `run_valid` requires it, so they are made once for all tests of a list.
use Rattle.std.specs.Prelude.{◌≡◌}
use Rattle.sandbox_args.specs.declared.request.Run.{Run}
use Rattle.sandbox_args.specs.Request.{texts, arguments_of}
use Rattle.sandbox_telling.specs.declared.supplies.GuestTexts.{GuestTexts}
use Rattle.sandbox_telling.specs.Supplies.{AreDirectories, directories_of}

pub record AreSupplies (run : Run) (supplies : GuestTexts) : Type 0 where
  pub args : texts supplies.args.items ≡ arguments_of run
  pub env : texts supplies.env.items ≡ texts run.env.items
  pub preopens : AreDirectories (directories_of run) supplies.preopens.items
