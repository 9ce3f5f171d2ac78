use Rattle.deferred_calls.proofs.Whole.{steps_of_the_whole}
use Rattle.deferred_calls.proofs.laws.steps_of_the_whole.Goals as goal

pub returns : goal.returns
returns g c = steps_of_the_whole _ g.H.Host.calls
