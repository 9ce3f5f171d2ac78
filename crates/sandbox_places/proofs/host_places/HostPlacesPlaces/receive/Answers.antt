use Rattle.sandbox_places.specs.Places.{Receives}
use Rattle.sandbox_places.proofs.Given.{refused}
use Rattle.sandbox_places.proofs.host_places.HostPlacesPlaces.receive.Goals as goal

pub returns : goal.returns
returns c = record { asked = tt; refused = refused (Receives c.args.name.now) c.received-done.result }
