use Rattle.sandbox_places.specs.Places.{HandsOver}
use Rattle.sandbox_places.proofs.Given.{refused}
use Rattle.sandbox_places.proofs.host_places.HostPlacesPlaces.hand_over.Goals as goal

pub returns : goal.returns
returns c = record { asked = tt; refused = refused (HandsOver c.args.name.now) c.replaced.result; handed = c.replaced.ensures }
