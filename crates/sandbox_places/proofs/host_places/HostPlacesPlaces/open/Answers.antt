use Rattle.sandbox_places.specs.Places.{Opens}
use Rattle.sandbox_places.proofs.Given.{refused}
use Rattle.sandbox_places.proofs.host_places.HostPlacesPlaces.open.Goals as goal

pub returns : goal.returns
returns c = record { asked = tt; refused = refused (Opens c.args.name.now) c.opened-done.result; input = c.opened-done.ensures }
