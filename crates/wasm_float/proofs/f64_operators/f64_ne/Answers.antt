-- No comparison but `ne` holds of a NaN.
use Rattle.std.specs.Float.Ieee.{binary64, ne}
use Rattle.wasm_float.proofs.Nans.{ne_nan, some_nan}
use Rattle.wasm_float.proofs.f64_operators.f64_ne.Goals as goal

pub returns-then-either_nan : goal.returns-then-either_nan
returns-then-either_nan c = some_nan ne ne_nan binary64 c.args.a c.args.b _ c.either_nan.ensures c.if-either_nan.true
