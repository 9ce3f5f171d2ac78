use Rattle.std.proofs.Common.{rules, arith}
use Rattle.std.proofs.lemmas.Grind.{common_steps}
use Rattle.vol_body.proofs.holding.read_unless_held.Goals as goal

pub returns-then-n-held-clause-bytes : goal.returns-then-n-held-clause-bytes
returns-then-n-held-clause-bytes g c = search rules

pub returns-clause-reads : goal.returns-clause-reads
returns-clause-reads c = grind (arith, common_steps)

pub returns-then-n-held-clause-reads : goal.returns-then-n-held-clause-reads
returns-then-n-held-clause-reads c = grind (arith, common_steps)
