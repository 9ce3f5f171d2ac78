use Rattle.same_run.proofs.Sameness.{same_run}
use Rattle.same_run.proofs.laws.same_run.Goals as goal

pub returns : goal.returns
returns g c = same_run _ _
