use Rattle.sandbox_places.specs.Places.{HandsOut}
use Rattle.sandbox_places.proofs.Given.{refused}
use Rattle.sandbox_places.proofs.host_places.HostPlacesPlaces.hand_out.Goals as goal

pub returns : goal.returns
returns c = record { asked = tt; refused = refused (HandsOut c.args.name.now) c.replaced.result; handed = c.replaced.ensures }
