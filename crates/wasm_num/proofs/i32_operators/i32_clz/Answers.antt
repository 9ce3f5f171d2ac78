use Rattle.std.proofs.Common.{arith}
use Rattle.wasm_num.proofs.Zeros.{leading_is_clz}
use Rattle.wasm_num.proofs.i32_operators.i32_clz.Goals as goal

pub returns : goal.returns
returns c = leading_is_clz 32 c.args.x (omega arith)
