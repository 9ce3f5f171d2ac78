-- Types of numbers as types of values (section 2.3.1).
use Rattle.wasm_syntax.specs.declared.instruction.ValueType.{ValueType}
use Rattle.wasm_syntax.specs.declared.instruction.ValueType.TheVariants.{I32, I64, F32, F64}
use Rattle.wasm_syntax.specs.declared.instruction.IntegerType.{IntegerType}
use Rattle.wasm_syntax.specs.declared.instruction.IntegerType.TheVariants as int
use Rattle.wasm_syntax.specs.declared.instruction.FloatType.{FloatType}
use Rattle.wasm_syntax.specs.declared.instruction.FloatType.TheVariants as float_type

-- an integer type as a type of values (section 2.3.1)
abbrev pub integer : IntegerType → ValueType
integer int.I32 = I32
integer int.I64 = I64

-- a type of floats as a type of values
abbrev pub float : FloatType → ValueType
float float_type.F32 = F32
float float_type.F64 = F64
