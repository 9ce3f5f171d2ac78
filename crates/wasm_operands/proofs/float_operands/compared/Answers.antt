use Rattle.std.proofs.Common.{arith}
use Rattle.std.proofs.lemmas.Grind.{common_steps}
use Rattle.wasm_operands.proofs.float_operands.compared.Goals as goal

pub operand-first-requires : goal.operand-first-requires
operand-first-requires c = grind (arith, common_steps)

pub operand-second-requires : goal.operand-second-requires
operand-second-requires c = grind (arith, common_steps)
