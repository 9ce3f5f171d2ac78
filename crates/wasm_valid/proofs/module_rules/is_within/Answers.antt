use Rattle.std.proofs.Common.{arith}
use Rattle.std.proofs.lemmas.Grind.{common_steps}
use Rattle.wasm_valid.proofs.module_rules.is_within.Goals as goal

pub returns-in-Function : goal.returns-in-Function
returns-in-Function c = grind (arith, common_steps)

pub returns-in-Global : goal.returns-in-Global
returns-in-Global c = grind (arith, common_steps)

pub returns-in-Memory : goal.returns-in-Memory
returns-in-Memory c = grind (arith, common_steps)

pub returns-in-Table : goal.returns-in-Table
returns-in-Table c = grind (arith, common_steps)
