use Rattle.std.proofs.Common.{◌∙◌, arith}
use Rattle.wasm_num.proofs.Zeros.{leading_is_clz}
use Rattle.wasm_num.proofs.i64_operators.i64_clz.Goals as goal

pub returns : goal.returns
returns c = c.from.ensures ∙ leading_is_clz 64 c.args.x (omega arith)
