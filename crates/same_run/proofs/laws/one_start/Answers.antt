use Rattle.same_run.proofs.OneStart.{started_alike}
use Rattle.same_run.proofs.laws.one_start.Goals as goal

pub returns : goal.returns
returns g c = λ h pages m i1 i2 s1 s2 xs1 xs2 valid a b. started_alike _ pages m i1 i2 s1 s2 xs1 xs2 valid a b
