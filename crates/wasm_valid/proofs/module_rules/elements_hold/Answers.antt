use Rattle.std.proofs.Common.{arith}
use Rattle.std.proofs.lemmas.Grind.{common_steps}
use Rattle.wasm_valid.proofs.module_rules.elements_hold.Goals as goal

pub returns-else-is_constant : goal.returns-else-is_constant
returns-else-is_constant c = grind (arith, common_steps)

pub returns-then-is_constant : goal.returns-then-is_constant
returns-then-is_constant c = grind (arith, common_steps)
