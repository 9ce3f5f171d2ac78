use Rattle.fed_input.proofs.Wholes.{calls_of_the_whole}
use Rattle.fed_input.proofs.laws.calls_of_the_whole.Goals as goal

pub returns : goal.returns
returns g c = calls_of_the_whole _ _ _ _ _ _ _ _ _
