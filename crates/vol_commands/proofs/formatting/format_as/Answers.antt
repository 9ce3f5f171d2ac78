use Rattle.std.proofs.Common.{rules}
use Rattle.vol_commands.proofs.formatting.format_as.Goals as goal

pub returns-in-Err-clause-formats : goal.returns-in-Err-clause-formats
returns-in-Err-clause-formats g c = search rules

pub returns-in-Err-clause-goes_on : goal.returns-in-Err-clause-goes_on
returns-in-Err-clause-goes_on g c end past first from = c.in-Err.ensures.goes_on end past.0 first from

pub returns-in-Ok-clause-goes_on : goal.returns-in-Ok-clause-goes_on
returns-in-Ok-clause-goes_on g c end past first from = c.in-Ok.ensures.goes_on end past.0 first from
