use Rattle.std.proofs.Common.{rules}
use Rattle.wasm_valid.proofs.valid.Valid.into_module.Goals as goal

pub returns : goal.returns
returns c = search rules
