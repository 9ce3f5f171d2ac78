use Rattle.std.proofs.Common.{false}
use Rattle.stream_answers.specs.Hearing.{stays}
use Rattle.sandbox_inspect.proofs.surveying.survey.Goals as goal

-- memory was refused, and nothing was printed
pub returns-clause-heard : goal.returns-clause-heard
returns-clause-heard g c = record { failed = false; heard = stays; worked = tt; blamed = λ other. absurd (other c.in-Err.ensures.memory) }
