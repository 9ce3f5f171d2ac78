use Rattle.wasm_num.proofs.Zeros.{trailing_is_ctz}
use Rattle.wasm_num.proofs.i32_operators.i32_ctz.Goals as goal

pub returns : goal.returns
returns c = trailing_is_ctz 32 c.args.x
