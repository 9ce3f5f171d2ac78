use Rattle.std.proofs.Common.{rules}
use Rattle.wasm_interp.proofs.shared.SharedMachine.used.Goals as goal

pub returns : goal.returns
returns c = search rules
