use Rattle.vol_body.proofs.Surveyed.{named_stands, stands_named}
use Rattle.vol_body.proofs.laws.survey_has_what_is_named.Goals as goal

pub returns-clause-each : goal.returns-clause-each
returns-clause-each c = named_stands

pub returns-clause-only : goal.returns-clause-only
returns-clause-only c = stands_named
