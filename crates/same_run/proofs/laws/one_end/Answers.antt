use Rattle.same_run.proofs.Running.{one_end}
use Rattle.same_run.proofs.laws.one_end.Goals as goal

pub returns : goal.returns
returns g c = λ failed i h h1 h2 c fuel o1 o2 u1 u2 once stay one other within1 within2 served1 served2.
    one_end _ _ i failed h h1 h2 c fuel o1 o2 u1 u2 once stay one other within1 within2 served1 served2
