use Rattle.vol_sector.proofs.Crash.{find_picks}
use Rattle.vol_sector.specs.Memory.{initial_image, record_of, sector_count}
use Rattle.vol_sector.proofs.laws.picks_give_what_a_crash_leaves.Goals as goal

pub returns : goal.returns
returns c image left =
    let device = c.args.device.now in
    let found = find_picks (initial_image device) (record_of device) image (sector_count device) left in
    (found.0, found.1.small, found.1.gives)
