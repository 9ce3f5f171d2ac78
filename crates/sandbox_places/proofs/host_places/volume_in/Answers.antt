use Rattle.sandbox_places.proofs.OfName.{is_volume}
use Rattle.sandbox_places.proofs.host_places.volume_in.Goals as goal

pub returns-then-only_new-clause-volume : goal.returns-then-only_new-clause-volume
returns-then-only_new-clause-volume c =
    is_volume c.args.name.now c.args.file (record { device = c.in_ok-kept.kept }) c.in_ok-kept.ensures.same c.requires.0 c.requires.1 c.in_ok-kept.ensures.read

pub returns-clause-volume : goal.returns-clause-volume
returns-clause-volume c =
    is_volume c.args.name.now c.args.file (record { device = c.in_ok-device.device }) c.in_ok-device.ensures.same c.requires.0 c.requires.1 c.in_ok-device.ensures.read
