use Rattle.same_instance.proofs.Instances.{same_instance}
use Rattle.same_instance.proofs.laws.same_instance.Goals as goal

pub returns : goal.returns
returns g c = same_instance g.M.SnapshotMeaning.stands _ _
