use Rattle.wasm_syntax.proofs.Widening.{module_widens}
use Rattle.wasm_syntax.proofs.shared_laws.floats_take_more.Goals as goal

pub returns : goal.returns
returns c = module_widens
