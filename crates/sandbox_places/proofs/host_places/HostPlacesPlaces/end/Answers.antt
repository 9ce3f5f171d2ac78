use Rattle.sandbox_places.specs.Places.{was_ended}
use Rattle.sandbox_places.proofs.host_places.HostPlacesPlaces.end.Goals as goal

pub returns : goal.returns
returns g c = was_ended c.args.it
