use Rattle.sandbox_places.proofs.OfName.{cut_output}
use Rattle.sandbox_places.proofs.host_places.HostPlaces.cut_apart.Goals as goal

pub returns : goal.returns
returns c = cut_output c.args.name.now c.args.file c.cut.new.self c.requires c.in_ok-cut.ensures
