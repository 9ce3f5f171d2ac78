use Rattle.std.proofs.Common.{rules}
use Rattle.sandbox_runs.proofs.ending.ended.Goals as goal

pub returns-clause-status : goal.returns-clause-status
returns-clause-status g c = search rules

pub returns-clause-out : goal.returns-clause-out
returns-clause-out g c = search rules
