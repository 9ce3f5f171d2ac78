use Rattle.same_run.proofs.Program.{same_program_report}
use Rattle.same_run.proofs.laws.same_program_report.Goals as goal

pub returns : goal.returns
returns g c = same_program_report _ _ _ _ _ _ _ _ _ _ _ _ _ _ _ _ _ _
