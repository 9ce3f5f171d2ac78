use Rattle.fed_input.proofs.Wholes.{runs_of_the_whole}
use Rattle.fed_input.proofs.laws.runs_of_the_whole.Goals as goal

pub returns : goal.returns
returns g c = runs_of_the_whole _ _ _ _ _ _ _ _ _
