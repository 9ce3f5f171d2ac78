use Rattle.vol_sector.proofs.Crash.{picked_is_left}
use Rattle.vol_sector.specs.Memory.{initial_image, record_of}
use Rattle.vol_sector.proofs.laws.crash_leaves_what_is_picked.Goals as goal

pub returns : goal.returns
returns c picks = picked_is_left (initial_image c.args.device.now) (record_of c.args.device.now) picks
