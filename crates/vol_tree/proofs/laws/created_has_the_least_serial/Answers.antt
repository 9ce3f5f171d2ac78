use Rattle.vol_tree.proofs.LeastSerial.{created_least}
use Rattle.vol_tree.proofs.laws.created_has_the_least_serial.Goals as goal

pub returns : goal.returns
returns c = created_least
