use Rattle.std.proofs.Common.{arith}
use Rattle.std.proofs.lemmas.Grind.{common_steps}
use Rattle.wasm_operands.proofs.operands.test_top.Goals as goal

pub operand-x-requires : goal.operand-x-requires
operand-x-requires c = grind (arith, common_steps)
