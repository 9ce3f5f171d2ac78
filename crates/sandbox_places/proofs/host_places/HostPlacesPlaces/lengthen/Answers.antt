use Rattle.sandbox_places.specs.Places.{lengthens}
use Rattle.sandbox_places.proofs.Given.{refused}
use Rattle.sandbox_places.proofs.host_places.HostPlacesPlaces.lengthen.Goals as goal

pub returns-clause-refused : goal.returns-clause-refused
returns-clause-refused c = refused (lengthens c.args.only_new c.args.name.now c.args.sectors) c.lengthened-done.result
