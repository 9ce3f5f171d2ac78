use Rattle.wasm_module.proofs.Modules.{one_module}
use Rattle.wasm_module.proofs.decoding.one_module_with.Goals as goal

pub returns : goal.returns
returns c = one_module
