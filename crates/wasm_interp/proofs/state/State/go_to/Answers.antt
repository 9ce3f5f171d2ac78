use Rattle.std.proofs.Common.{rules}
use Rattle.wasm_interp.proofs.state.State.go_to.Goals as goal

pub returns : goal.returns
returns c = search rules
