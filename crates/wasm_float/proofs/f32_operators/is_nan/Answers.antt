-- By the doubled bits.
use Rattle.std.proofs.Common.{rules}
use Rattle.wasm_float.proofs.Finites.{doubled_above_32}
use Rattle.wasm_float.proofs.f32_operators.is_nan.Goals as goal

pub returns : goal.returns
returns c = doubled_above_32 c.args.a (search rules)
