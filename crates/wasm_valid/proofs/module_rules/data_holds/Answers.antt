use Rattle.std.proofs.Common.{arith}
use Rattle.std.proofs.lemmas.Grind.{common_steps}
use Rattle.wasm_valid.proofs.module_rules.data_holds.Goals as goal

pub returns-else-segment-counts : goal.returns-else-segment-counts
returns-else-segment-counts c = grind (arith, common_steps)
