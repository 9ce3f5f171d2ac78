use Rattle.std.proofs.Common.{rules}
use Rattle.wasm_num.proofs.i32_operators.i32_shl.Goals as goal

pub returns : goal.returns
returns c = search rules
