-- Values (section 4.2.1), each a type and a whole number, never a negative one; of a float the number is its bits. The code keeps only the numbers, so
-- contracts compare by `numbers`; that each is one of its type is `IsInType`.
use Rattle.std.specs.Prelude.{ℕ, ◌^◌, ◌<◌, List, [], ◌∷◌}
use Rattle.wasm_syntax.specs.declared.instruction.ValueType.{ValueType}
use Rattle.wasm_syntax.specs.declared.instruction.ValueType.TheVariants.{I32, I64, F32, F64}

-- a value: its type and its number, which `IsInType` bounds
pub data Val : Type 0 where
  val : ValueType → ℕ → Val

abbrev pub number_of : Val → ℕ
number_of (val t n) = n

abbrev pub numbers : List Val → List ℕ
numbers [] = []
numbers (v ∷ vs) = number_of v ∷ numbers vs

abbrev pub type_of : Val → ValueType
type_of (val t n) = t

abbrev pub types : List Val → List ValueType
types [] = []
types (v ∷ vs) = type_of v ∷ types vs

-- its number is one of its type
abbrev pub IsInType : Val → Type 0
IsInType (val I32 n) = n < 2 ^ 32
IsInType (val I64 n) = n < 2 ^ 64
IsInType (val F32 n) = n < 2 ^ 32
IsInType (val F64 n) = n < 2 ^ 64

-- 0 of each type
abbrev pub zeros : List ValueType → List Val
zeros [] = []
zeros (t ∷ ts) = val t 0 ∷ zeros ts
