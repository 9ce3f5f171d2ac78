-- What the two profiles differ in: of the types of values, f32 and f64 are those of `Floats` alone.
use Rattle.std.specs.Prelude.{◌≡◌}
use Rattle.wasm_syntax.specs.declared.profile.Profile.{Profile}
use Rattle.wasm_syntax.specs.declared.profile.Profile.TheVariants.{Integers, Floats}
use Rattle.wasm_syntax.specs.declared.instruction.ValueType.{ValueType}
use Rattle.wasm_syntax.specs.declared.instruction.ValueType.TheVariants.{I32, I64, F32, F64}

-- there are values of this type
abbrev pub TakesType : Profile → ValueType → Type 0
TakesType p I32 = Unit {0}
TakesType p I64 = Unit {0}
TakesType p F32 = p ≡ Floats
TakesType p F64 = p ≡ Floats
