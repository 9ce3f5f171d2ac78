use Rattle.std.proofs.Common.{rules}
use Rattle.wasm_module.proofs.decoding.is_counted.Goals as goal

pub returns-in-Some : goal.returns-in-Some
returns-in-Some c = search rules
