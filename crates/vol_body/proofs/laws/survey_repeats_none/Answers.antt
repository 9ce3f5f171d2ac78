use Rattle.vol_body.proofs.Repeats.{names_none_twice}
use Rattle.vol_body.proofs.laws.survey_repeats_none.Goals as goal

pub returns : goal.returns
returns c = names_none_twice
