use Rattle.std.proofs.Common.{rules}
use Rattle.wasm_num.proofs.i64_operators.i64_shr_s.Goals as goal

pub returns : goal.returns
returns c = search rules
