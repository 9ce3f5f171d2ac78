use Rattle.std.proofs.Common.{◌≡◌, refl}
use Rattle.same_run.proofs.Moving.{next_alike, once_alike}
use Rattle.same_run.proofs.laws.one_next_step.Goals as goal

pub returns : goal.returns
returns g c = λ failed i n h h1 h2 c c1 c2 ev1 ev2 once one other given1 given2 sound1 sound2.
    next_alike _ _ i (λ a b. a ≡ b) failed (once_alike _ _ i failed once) n h h h1 h2 c c c1 c2 ev1 ev2 refl refl one other given1 given2 sound1 sound2
