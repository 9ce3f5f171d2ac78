use Rattle.wasm_syntax.proofs.Floatlessness.{module_floatless}
use Rattle.wasm_syntax.proofs.shared_laws.integers_alone.Goals as goal

pub returns : goal.returns
returns c = module_floatless
