-- A NaN makes a NaN.
use Rattle.std.proofs.Common.{sym, ◌∙◌}
use Rattle.std.specs.Float as Float
use Rattle.std.specs.Float.Ieee.{binary64}
use Rattle.wasm_float.proofs.Nans.{constant64, floor_nan, one_value, one_allowed}
use Rattle.wasm_float.proofs.f64_operators.f64_floor.Goals as goal

pub returns-then-is_nan-clause-value : goal.returns-then-is_nan-clause-value
returns-then-is_nan-clause-value c =
    c.bits.ensures.value ∙ one_value (Float.floor binary64) (floor_nan binary64) binary64 c.args.a _ constant64 (sym c.is_nan.ensures ∙ c.if-is_nan.true)

pub returns-then-is_nan-clause-allowed : goal.returns-then-is_nan-clause-allowed
returns-then-is_nan-clause-allowed c =
    one_allowed (Float.floor binary64) (floor_nan binary64) binary64 c.args.a _ constant64 (sym c.is_nan.ensures ∙ c.if-is_nan.true) _ (c.bits.ensures.allowed _)
