use Rattle.std.proofs.Common.{arith}
use Rattle.std.proofs.lemmas.Grind.{common_steps}
use Rattle.wasm_module.proofs.limits.few.Goals as goal

pub returns : goal.returns
returns c = grind (arith, common_steps)

pub loop-entry-preserved : goal.loop-entry-preserved
loop-entry-preserved c = grind (arith, common_steps)

pub returns-then-count-gt-MOST_LOCALS : goal.returns-then-count-gt-MOST_LOCALS
returns-then-count-gt-MOST_LOCALS c = grind (arith, common_steps)
