use Rattle.same_run.proofs.Sameness.{same_report}
use Rattle.same_run.proofs.laws.same_report.Goals as goal

pub returns : goal.returns
returns g c = same_report _ _
