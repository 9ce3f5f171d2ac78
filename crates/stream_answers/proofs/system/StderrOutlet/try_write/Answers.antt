use Rattle.stream_answers.specs.System.{has_refused, was_taken}
use Rattle.stream_answers.proofs.Told.{told_of}
use Rattle.stream_answers.proofs.system.StderrOutlet.try_write.Goals as goal

pub returns-clause-told : goal.returns-clause-told
returns-clause-told c = told_of c.write.result (λ n. was_taken _ _ _) (λ e. has_refused _ _)
