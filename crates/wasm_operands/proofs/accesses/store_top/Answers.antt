use Rattle.std.proofs.Common.{arith}
use Rattle.std.proofs.lemmas.Grind.{common_steps}
use Rattle.wasm_operands.proofs.accesses.store_top.Goals as goal

pub operand-base-requires : goal.operand-base-requires
operand-base-requires c = grind (arith, common_steps)

pub operand-x-requires : goal.operand-x-requires
operand-x-requires c = grind (arith, common_steps)

pub remove-requires : goal.remove-requires
remove-requires c = grind (arith, common_steps)
