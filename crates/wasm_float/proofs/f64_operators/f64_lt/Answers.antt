-- No comparison but `ne` holds of a NaN.
use Rattle.std.specs.Float.Ieee.{binary64, lt}
use Rattle.wasm_float.proofs.Nans.{lt_nan, no_number}
use Rattle.wasm_float.proofs.f64_operators.f64_lt.Goals as goal

pub returns-else-not-either_nan : goal.returns-else-not-either_nan
returns-else-not-either_nan c = no_number lt lt_nan binary64 c.args.a c.args.b _ c.either_nan.ensures c.if-not-either_nan.false
