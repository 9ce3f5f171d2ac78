use Rattle.std.proofs.Common.{rules}
use Rattle.wasm_valid.proofs.operands.meet.Goals as goal

pub returns-in-Some-Some : goal.returns-in-Some-Some
returns-in-Some-Some c = search rules
