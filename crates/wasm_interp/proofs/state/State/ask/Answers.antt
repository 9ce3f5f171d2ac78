use Rattle.std.proofs.Common.{arith}
use Rattle.std.proofs.lemmas.Grind.{common_steps}
use Rattle.wasm_interp.proofs.state.State.ask.Goals as goal

pub returns-then-signature-gt0 : goal.returns-then-signature-gt0
returns-then-signature-gt0 g c = grind (arith, common_steps)

pub returns-in_default : goal.returns-in_default
returns-in_default g c = grind (arith, common_steps)
