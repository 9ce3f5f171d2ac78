use Rattle.std.proofs.Common.{rules}
use Rattle.sandbox_command.proofs.inspecting.survey_ended.Goals as goal

pub returns-in-Ok-Err-clause-told : goal.returns-in-Ok-Err-clause-told
returns-in-Ok-Err-clause-told g c = search rules
