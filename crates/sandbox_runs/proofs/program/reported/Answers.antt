use Rattle.std.proofs.Common.{rules}
use Rattle.sandbox_runs.proofs.program.reported.Goals as goal

pub returns-clause-summary : goal.returns-clause-summary
returns-clause-summary g c = search rules
