use Rattle.std.proofs.Common.{rules, arith}
use Rattle.std.proofs.lemmas.Grind.{common_steps}
use Rattle.wasm_num.proofs.i32_operators.i32_rem_s.Goals as goal

pub returns-then-y-eq4294967295 : goal.returns-then-y-eq4294967295
returns-then-y-eq4294967295 c = search rules

pub returns : goal.returns
returns c = grind (arith, common_steps)
