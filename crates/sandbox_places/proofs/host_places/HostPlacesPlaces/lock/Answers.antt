use Rattle.sandbox_places.specs.Places.{Locks}
use Rattle.sandbox_places.proofs.Given.{refused}
use Rattle.sandbox_places.proofs.host_places.HostPlacesPlaces.lock.Goals as goal

pub returns-clause-refused : goal.returns-clause-refused
returns-clause-refused c = refused (Locks c.args.name.now) c.locked-done.result
