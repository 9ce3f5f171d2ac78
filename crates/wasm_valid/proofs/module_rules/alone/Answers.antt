use Rattle.std.proofs.Common.{arith}
use Rattle.std.proofs.lemmas.Grind.{common_steps}
use Rattle.wasm_valid.proofs.module_rules.alone.Goals as goal

pub returns-in-End : goal.returns-in-End
returns-in-End c = grind (arith, common_steps)
