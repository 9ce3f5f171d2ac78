-- No comparison but `ne` holds of a NaN.
use Rattle.std.specs.Float.Ieee.{binary32, ne}
use Rattle.wasm_float.proofs.Nans.{ne_nan, some_nan}
use Rattle.wasm_float.proofs.f32_operators.f32_ne.Goals as goal

pub returns-then-either_nan : goal.returns-then-either_nan
returns-then-either_nan c = some_nan ne ne_nan binary32 c.args.a c.args.b _ c.either_nan.ensures c.if-either_nan.true
