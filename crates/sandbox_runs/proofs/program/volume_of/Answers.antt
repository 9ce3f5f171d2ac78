use Rattle.std.proofs.Common.{rules}
use Rattle.sandbox_runs.proofs.program.volume_of.Goals as goal

pub returns : goal.returns
returns c = search rules
