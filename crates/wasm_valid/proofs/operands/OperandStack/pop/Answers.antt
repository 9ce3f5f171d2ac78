use Rattle.std.proofs.Common.{rules}
use Rattle.wasm_valid.proofs.operands.OperandStack.pop.Goals as goal

pub returns-in-Some-Some-clause-stack : goal.returns-in-Some-Some-clause-stack
returns-in-Some-Some-clause-stack c = search rules
