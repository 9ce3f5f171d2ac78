use Rattle.std.proofs.Common.{rules}
use Rattle.vol_log.proofs.log.Log.room.Goals as goal

pub returns : goal.returns
returns g c = search rules
