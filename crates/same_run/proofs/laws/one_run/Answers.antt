use Rattle.same_run.proofs.Running.{one_run}
use Rattle.same_run.proofs.laws.one_run.Goals as goal

pub returns : goal.returns
returns g c = λ failed i h h1 h2 c c1 c2 es1 es2 once stay one other given1 given2 sound1 sound2.
    one_run _ _ i failed once stay h h1 h2 c c1 c2 es1 es2 one other given1 given2 sound1 sound2
