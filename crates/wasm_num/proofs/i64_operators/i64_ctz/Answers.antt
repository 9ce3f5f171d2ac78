use Rattle.std.proofs.Common.{◌∙◌}
use Rattle.wasm_num.proofs.Zeros.{trailing_is_ctz}
use Rattle.wasm_num.proofs.i64_operators.i64_ctz.Goals as goal

pub returns : goal.returns
returns c = c.from.ensures ∙ trailing_is_ctz 64 c.args.x
