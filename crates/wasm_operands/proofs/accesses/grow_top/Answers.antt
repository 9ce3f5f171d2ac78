use Rattle.std.proofs.Common.{rules, arith}
use Rattle.std.proofs.lemmas.Grind.{common_steps}
use Rattle.wasm_operands.proofs.accesses.grow_top.Goals as goal

pub returns-in-None-clause-grown : goal.returns-in-None-clause-grown
returns-in-None-clause-grown c = search rules

pub operand-pages-requires : goal.operand-pages-requires
operand-pages-requires c = grind (arith, common_steps)

pub replace-requires-clause-there : goal.replace-requires-clause-there
replace-requires-clause-there c = grind (arith, common_steps)

pub replace-requires-in-None-clause-there : goal.replace-requires-in-None-clause-there
replace-requires-in-None-clause-there c = grind (arith, common_steps)
