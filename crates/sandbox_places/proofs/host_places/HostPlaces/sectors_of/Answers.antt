use Rattle.sandbox_places.proofs.OfName.{is_image}
use Rattle.sandbox_places.proofs.host_places.HostPlaces.sectors_of.Goals as goal

pub returns-clause-image : goal.returns-clause-image
returns-clause-image c = is_image c.args.name.now c.in_ok-file.file c.of_file.result c.in_ok-file.ensures.opened c.of_file.ensures.read
