-- How types are read, by readers that follow the spellings of `Types`. Where `src/parts.rt` implements `Decode` for a
-- type, its ghost member `at` names the reader that the code follows.
use Rattle.std.specs.Prelude.{ℕ, Bool, false, true, Option, Some, None, nat_le, ◌==◌, if◌then◌else◌}
use Rattle.wasm_syntax.specs.declared.profile.Profile.{Profile}
use Rattle.wasm_syntax.specs.declared.profile.Profile.TheVariants.{Integers, Floats}
use Rattle.wasm_syntax.specs.declared.instruction.ValueType.{ValueType}
use Rattle.wasm_syntax.specs.declared.instruction.ValueType.TheVariants.{I32, I64, F32, F64}
use Rattle.wasm_syntax.specs.declared.instruction.BlockType.{BlockType}
use Rattle.wasm_syntax.specs.declared.instruction.BlockType.TheVariants.{Empty, Value}
use Rattle.wasm_syntax.specs.declared.module.FuncType.{FuncType}
use Rattle.wasm_syntax.specs.declared.module.Limits.{Limits}
use Rattle.wasm_syntax.specs.declared.module.GlobalType.{GlobalType}
use Rattle.wasm_syntax.specs.Reading.{◌>>=◌, Reader, byte_at, next_at, then_at, map_at, u32_at, vector_at}

abbrev pub takes_floats : Profile → Bool
takes_floats Integers = false
takes_floats Floats = true

-- what is there only with floats
abbrev pub with_floats : {X : Type 0} → Profile → X → Option X
with_floats p x = if takes_floats p then Some x else None

abbrev pub value_type_of : Profile → ℕ → Option ValueType
value_type_of p b =
    if b == 0x7F then Some I32 else (
    if b == 0x7E then Some I64 else (
    if b == 0x7D then with_floats p F32 else (
    if b == 0x7C then with_floats p F64 else None)))

unfoldable pub value_type_at : Profile → Reader ValueType
value_type_at p bytes = next_at bytes >>= λ b. value_type_of p b.0 >>= λ t. Some (t, b.1)

unfoldable pub block_type_at : Profile → Reader BlockType
block_type_at p bytes = next_at bytes >>= λ b. if b.0 == 0x40 then Some (Empty, b.1) else (value_type_of p b.0 >>= λ t. Some (Value t, b.1))

unfoldable pub func_type_at : Profile → Reader FuncType
func_type_at p = map_at (λ x. record { params = x.1.0; results = x.1.1 }) (then_at (byte_at 0x60) (then_at (vector_at (value_type_at p)) (vector_at (value_type_at p))))

-- the numbers of limits that begin with this byte
unfoldable pub bounds_after : ℕ → Reader Limits
bounds_after b =
    if b == 0x00 then map_at (λ min. record { min = min; max = None }) u32_at else (
    if b == 0x01 then map_at (λ p. record { min = p.0; max = Some p.1 }) (then_at u32_at u32_at) else (λ rest. None))

unfoldable pub limits_at : Reader Limits
limits_at bytes = next_at bytes >>= λ b. bounds_after b.0 b.1

unfoldable pub table_at : Reader Limits
table_at bytes = byte_at 0x70 bytes >>= λ b. limits_at b.1 >>= λ l. if nat_le l.0.min 1000000 then Some l else None

abbrev pub mutability_of : ℕ → Option Bool
mutability_of b = if b == 0x00 then Some false else (if b == 0x01 then Some true else None)

unfoldable pub mutability_at : Reader Bool
mutability_at bytes = next_at bytes >>= λ b. mutability_of b.0 >>= λ m. Some (m, b.1)

unfoldable pub global_type_at : Profile → Reader GlobalType
global_type_at p = map_at (λ x. record { value_type = x.0; mutable = x.1 }) (then_at (value_type_at p) mutability_at)
