use Rattle.stream_answers.specs.System.{has_refused, was_flushed}
use Rattle.stream_answers.proofs.system.StderrOutlet.try_flush.Goals as goal

pub returns-clause-flushed : goal.returns-clause-flushed
returns-clause-flushed c = λ is. was_flushed _ _

pub returns-clause-refused : goal.returns-clause-refused
returns-clause-refused c = λ is. has_refused _ _
