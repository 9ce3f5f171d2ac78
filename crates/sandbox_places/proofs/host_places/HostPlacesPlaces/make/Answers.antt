use Rattle.sandbox_places.specs.Places.{Makes}
use Rattle.sandbox_places.proofs.Given.{refused}
use Rattle.sandbox_places.proofs.host_places.HostPlacesPlaces.make.Goals as goal

pub returns : goal.returns
returns c = record { asked = tt; refused = refused (Makes c.args.name.now) c.made-done.result; output = c.made-done.ensures.named }
