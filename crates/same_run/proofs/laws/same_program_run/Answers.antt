use Rattle.same_run.proofs.Program.{same_program_run}
use Rattle.same_run.proofs.laws.same_program_run.Goals as goal

pub returns : goal.returns
returns g c = same_program_run g.M.SnapshotMeaning.stands _ _ _ _ _ _ _ _ _ _ _ _ _ _ _ _ _ _
