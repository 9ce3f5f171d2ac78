use Rattle.std.proofs.Common.{refl, arith}
use Rattle.std.proofs.lemmas.Grind.{common_steps}
use Rattle.wasm_valid.proofs.operands.OperandStack.leave.Goals as goal

pub returns-then-not-take : goal.returns-then-not-take
returns-then-not-take c = record { below = c.take.ensures.below; stack = rw c.if-not-take.ensures.stack refl }

pub returns-clause-below : goal.returns-clause-below
returns-clause-below c = grind (arith, common_steps)

pub returns-clause-stack : goal.returns-clause-stack
returns-clause-stack c = grind (arith, common_steps)
