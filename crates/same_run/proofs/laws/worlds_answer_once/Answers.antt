use Rattle.same_run.proofs.Answering.{answers_once, failures_stay}
use Rattle.same_run.proofs.laws.worlds_answer_once.Goals as goal

pub returns-clause-once : goal.returns-clause-once
returns-clause-once c = answers_once

pub returns-clause-stays : goal.returns-clause-stays
returns-clause-stays c = failures_stay
