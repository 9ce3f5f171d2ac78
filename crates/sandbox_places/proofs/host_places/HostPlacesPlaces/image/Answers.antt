use Rattle.sandbox_places.specs.Places.{Reads}
use Rattle.sandbox_places.proofs.Given.{refused}
use Rattle.sandbox_places.proofs.host_places.HostPlacesPlaces.image.Goals as goal

pub returns-clause-refused : goal.returns-clause-refused
returns-clause-refused c = refused (Reads c.args.name.now) c.sectors_of-done.result
