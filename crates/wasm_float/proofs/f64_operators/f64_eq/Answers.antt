-- No comparison but `ne` holds of a NaN.
use Rattle.std.specs.Float.Ieee.{binary64, eq}
use Rattle.wasm_float.proofs.Nans.{eq_nan, no_number}
use Rattle.wasm_float.proofs.f64_operators.f64_eq.Goals as goal

pub returns-else-not-either_nan : goal.returns-else-not-either_nan
returns-else-not-either_nan c = no_number eq eq_nan binary64 c.args.a c.args.b _ c.either_nan.ensures c.if-not-either_nan.false
