use Rattle.std.proofs.Common.{rules}
use Rattle.sandbox_runs.proofs.program.refuse_words.Goals as goal

pub returns : goal.returns
returns g c = search rules
