use Rattle.vol_body.proofs.Surveyed.{keeps_rules}
use Rattle.vol_body.proofs.laws.survey_shows_the_rules.Goals as goal

pub returns : goal.returns
returns c = keeps_rules
