use Rattle.sandbox_places.specs.Places.{Cuts}
use Rattle.sandbox_places.proofs.Given.{refused}
use Rattle.sandbox_places.proofs.host_places.HostPlacesPlaces.cut.Goals as goal

pub returns : goal.returns
returns c = record { asked = tt; refused = refused (Cuts c.args.name.now) c.cut_apart-done.result; output = c.cut_apart-done.ensures }
