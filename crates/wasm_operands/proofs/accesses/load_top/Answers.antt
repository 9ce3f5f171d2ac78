use Rattle.std.proofs.Common.{arith}
use Rattle.std.proofs.lemmas.Grind.{common_steps}
use Rattle.wasm_operands.proofs.accesses.load_top.Goals as goal

pub operand-base-requires : goal.operand-base-requires
operand-base-requires c = grind (arith, common_steps)

pub replace-requires-clause-there : goal.replace-requires-clause-there
replace-requires-clause-there c = grind (arith, common_steps)
