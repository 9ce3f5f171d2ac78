use Rattle.sandbox_places.proofs.OfName.{is_volume}
use Rattle.sandbox_places.proofs.host_places.HostPlaces.locked.Goals as goal

pub returns-clause-volume : goal.returns-clause-volume
returns-clause-volume c =
    is_volume c.args.name.now c.in_ok-file.file (record { device = c.in_ok-device.device }) c.in_ok-device.ensures.same
    c.in_ok-file.ensures.opened c.in_ok-file.ensures.locked c.in_ok-device.ensures.read
