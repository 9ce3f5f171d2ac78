use Rattle.std.proofs.Common.{arith}
use Rattle.std.proofs.lemmas.Grind.{common_steps}
use Rattle.wasm_operands.proofs.operands.move_down.Goals as goal

pub returns-in-0-clause-moved : goal.returns-in-0-clause-moved
returns-in-0-clause-moved c = grind (arith, common_steps)

pub returns-in-1-clause-moved : goal.returns-in-1-clause-moved
returns-in-1-clause-moved c = grind (arith, common_steps)

pub returns-in_default-clause-moved : goal.returns-in_default-clause-moved
returns-in_default-clause-moved c = grind (arith, common_steps)
