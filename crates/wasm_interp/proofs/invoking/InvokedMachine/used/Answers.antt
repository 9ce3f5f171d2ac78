use Rattle.std.proofs.Common.{rules}
use Rattle.wasm_interp.proofs.invoking.InvokedMachine.used.Goals as goal

pub returns : goal.returns
returns c = search rules
