use Rattle.std.proofs.Common.{rules, arith}
use Rattle.std.proofs.lemmas.Grind.{common_steps}
use Rattle.wasm_valid.proofs.module_rules.limits_fit.Goals as goal

pub returns-in-None : goal.returns-in-None
returns-in-None c = search rules

pub returns-else-limits-max : goal.returns-else-limits-max
returns-else-limits-max c = grind (arith, common_steps)

pub returns-then-limits-max : goal.returns-then-limits-max
returns-then-limits-max c = grind (arith, common_steps)
