-- What blocks leave, and what operators on floats take and give, as types of values (sections 3.3.1 and 3.3.5).
use Rattle.std.specs.Prelude.{ℕ, List, [], ◌∷◌, length}
use Rattle.wasm_syntax.specs.declared.instruction.ValueType.{ValueType}
use Rattle.wasm_syntax.specs.declared.instruction.ValueType.TheVariants.{I32, F32, F64}
use Rattle.wasm_syntax.specs.declared.instruction.IntegerType.{IntegerType}
use Rattle.wasm_syntax.specs.declared.instruction.IntegerType.TheVariants as int
use Rattle.wasm_syntax.specs.declared.instruction.FloatType.{FloatType}
use Rattle.wasm_syntax.specs.declared.instruction.FloatType.TheVariants as float_type
use Rattle.wasm_syntax.specs.declared.instruction.FloatOperator.{FloatOperator}
use Rattle.wasm_syntax.specs.declared.instruction.FloatOperator.TheVariants as float_op
use Rattle.wasm_syntax.specs.declared.instruction.BlockType.{BlockType}
use Rattle.wasm_syntax.specs.declared.instruction.BlockType.TheVariants.{Empty, Value}
use Rattle.wasm_syntax.specs.ValueTypes.{integer, float}
use Rattle.wasm_syntax.specs.Nested.{block}

-- what a block leaves
abbrev pub results_of : BlockType → List ValueType
results_of Empty = []
results_of (Value t) = t ∷ []

-- how many values a block leaves
abbrev pub arity : BlockType → ℕ
arity t = length (results_of t)

-- the integers that have as many bits as these floats
abbrev pub as_wide : FloatType → IntegerType
as_wide float_type.F32 = int.I32
as_wide float_type.F64 = int.I64

-- what an operator on floats takes, the one on top first, and what it gives
abbrev pub float_takes : FloatOperator → List ValueType
float_takes (float_op.Compare f o) = float f ∷ float f ∷ []
float_takes (float_op.Unary f o) = float f ∷ []
float_takes (float_op.Binary f o) = float f ∷ float f ∷ []
float_takes (float_op.Truncate t f s) = float f ∷ []
float_takes (float_op.Saturate t f s) = float f ∷ []
float_takes (float_op.Convert f t s) = integer t ∷ []
float_takes float_op.Demote = F64 ∷ []
float_takes float_op.Promote = F32 ∷ []
float_takes (float_op.ToBits f) = float f ∷ []
float_takes (float_op.FromBits f) = integer (as_wide f) ∷ []

abbrev pub float_gives : FloatOperator → ValueType
float_gives (float_op.Compare f o) = I32
float_gives (float_op.Unary f o) = float f
float_gives (float_op.Binary f o) = float f
float_gives (float_op.Truncate t f s) = integer t
float_gives (float_op.Saturate t f s) = integer t
float_gives (float_op.Convert f t s) = float f
float_gives float_op.Demote = F32
float_gives float_op.Promote = F64
float_gives (float_op.ToBits f) = integer (as_wide f)
float_gives (float_op.FromBits f) = float f
