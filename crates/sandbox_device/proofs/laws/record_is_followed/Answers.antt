use Rattle.sandbox_device.proofs.Recorded.{followed}
use Rattle.sandbox_device.proofs.laws.record_is_followed.Goals as goal

pub returns : goal.returns
returns c = followed
