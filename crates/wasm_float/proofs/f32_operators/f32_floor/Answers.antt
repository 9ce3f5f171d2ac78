-- A NaN makes a NaN.
use Rattle.std.proofs.Common.{sym, ◌∙◌}
use Rattle.std.specs.Float as Float
use Rattle.std.specs.Float.Ieee.{binary32}
use Rattle.wasm_float.proofs.Nans.{constant32, floor_nan, one_value, one_allowed}
use Rattle.wasm_float.proofs.f32_operators.f32_floor.Goals as goal

pub returns-then-is_nan-clause-value : goal.returns-then-is_nan-clause-value
returns-then-is_nan-clause-value c =
    c.bits.ensures.value ∙ one_value (Float.floor binary32) (floor_nan binary32) binary32 c.args.a _ constant32 (sym c.is_nan.ensures ∙ c.if-is_nan.true)

pub returns-then-is_nan-clause-allowed : goal.returns-then-is_nan-clause-allowed
returns-then-is_nan-clause-allowed c =
    one_allowed (Float.floor binary32) (floor_nan binary32) binary32 c.args.a _ constant32 (sym c.is_nan.ensures ∙ c.if-is_nan.true) _ (c.bits.ensures.allowed _)
