use Rattle.std.proofs.Common.{ℕ, Result, Ok, Err, None, OnOk}
use Rattle.std.specs.Io.KnownBytes.{Appends}
use Rattle.observed_run.specs.Stacks.{Stacks}
use Rattle.sandbox_args.specs.Request.{Text}
use Rattle.sandbox_places.specs.Places.{Prints}
use Rattle.sandbox_telling.specs.Profiling.{IsProfile}
use Rattle.sandbox_places.specs.System.{WasPrinted}
use Rattle.sandbox_places.proofs.Given.{refused}
use Rattle.sandbox_places.proofs.host_places.HostPlacesPlaces.print_profile.Goals as goal

profile_printed : {U E : Type 0} (names : ℕ → Text) (stacks : Stacks) (name : Text) (r : Result U E)
    → OnOk r ((text : Text) × IsProfile names stacks text × WasPrinted name text)
    → OnOk r ((text : Text) × IsProfile names stacks text × WasPrinted name text × Appends None None text)
profile_printed names stacks name (Ok u) (text, is, printed) = (text, is, printed, tt)
profile_printed names stacks name (Err e) is = tt

pub returns : goal.returns
returns g c = record {
  asked = tt;
  refused = refused (Prints c.args.name.now) c.print_stacks.result;
  printed = profile_printed _ c.args.stacks.now c.args.name.now c.print_stacks.result c.print_stacks.ensures;
}
