use Rattle.sandbox_places.specs.Places.{Reads}
use Rattle.sandbox_places.proofs.Given.{refused}
use Rattle.sandbox_places.proofs.host_places.HostPlacesPlaces.text.Goals as goal

pub returns : goal.returns
returns c = record { asked = tt; refused = refused (Reads c.args.name.now) c.text_of-done.result; text = c.text_of-done.ensures }
