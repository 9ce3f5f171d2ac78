use Rattle.std.proofs.Common.{◌++◌}
use Rattle.sandbox_report.specs.Reporting.{report_text}
use Rattle.sandbox_places.specs.Places.{Prints}
use Rattle.sandbox_places.proofs.Given.{nothing_told, refused}
use Rattle.sandbox_places.proofs.host_places.HostPlacesPlaces.print.Goals as goal

pub returns : goal.returns
returns c = record {
  asked = tt;
  refused = refused (Prints c.args.name.now) c.print_apart.result;
  printed = c.print_apart.ensures;
  tells = nothing_told (report_text c.args.summary.now ++ c.args.lines.now) c.print_apart.result;
}
