use Rattle.std.proofs.Common.{arith}
use Rattle.std.proofs.lemmas.Grind.{common_steps}
use Rattle.wasm_valid.proofs.operands.OperandStack.take_all.Goals as goal

pub loop-last-preserved : goal.loop-last-preserved
loop-last-preserved c = grind (arith, common_steps)

pub returns-clause-stack : goal.returns-clause-stack
returns-clause-stack c = grind (arith, common_steps)

pub returns-then-not-pop-clause-stack : goal.returns-then-not-pop-clause-stack
returns-then-not-pop-clause-stack c = grind (arith, common_steps)
