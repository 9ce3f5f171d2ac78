use Rattle.sandbox_device.specs.Named.{WasOpened}
use Rattle.sandbox_places.proofs.OfName.{told}
use Rattle.sandbox_places.proofs.host_places.HostPlaces.opened.Goals as goal

pub returns : goal.returns
returns c = told (WasOpened c.args.name.now) c.open_to_read.result c.in_ok-file.file c.in_ok-file.ensures c.open_to_read.ensures.opened
