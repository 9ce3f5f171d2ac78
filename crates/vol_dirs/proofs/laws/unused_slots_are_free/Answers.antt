use Rattle.vol_dirs.proofs.Shown.{free_slot}
use Rattle.vol_dirs.proofs.laws.unused_slots_are_free.Goals as goal

pub returns : goal.returns
returns c v image slots s shown is = free_slot v image slots s c.args.dirs.now shown is
