-- How instructions are read, by their opcodes, and how code ends. The decoder doesn't build a tree: `code_from` keeps
-- the blocks that are open, and stops at the `end` that closes the last of them.
use Rattle.std.specs.Prelude.{ℕ, zero, suc, ◌+◌, ◌-◌, ◌*◌, ◌^◌, List, [], ◌∷◌, ◌++◌, length, Option, Some, None, Bool, ◌&&◌, ◌||◌, nat_lt, nat_le, ◌==◌, if◌then◌else◌}
use Rattle.wasm_syntax.specs.declared.profile.Profile.{Profile}
use Rattle.wasm_syntax.specs.declared.profile.Profile.TheVariants.{Integers, Floats}
use Rattle.wasm_syntax.specs.declared.number.Sign.TheVariants.{Unsigned, Signed}
use Rattle.wasm_syntax.specs.declared.instruction.IntegerType.{IntegerType}
use Rattle.wasm_syntax.specs.declared.instruction.IntegerType.TheVariants.{I32, I64}
use Rattle.wasm_syntax.specs.declared.instruction.BlockType.{BlockType}
use Rattle.wasm_syntax.specs.declared.instruction.MemArg.{MemArg}
use Rattle.wasm_syntax.specs.declared.accesses.LoadOperator.{LoadOperator}
use Rattle.wasm_syntax.specs.declared.accesses.LoadOperator.TheVariants as load
use Rattle.wasm_syntax.specs.declared.accesses.StoreOperator.{StoreOperator}
use Rattle.wasm_syntax.specs.declared.accesses.StoreOperator.TheVariants as store
use Rattle.wasm_syntax.specs.declared.instruction.Comparison.{Comparison}
use Rattle.wasm_syntax.specs.declared.instruction.Comparison.TheVariants as comparison
use Rattle.wasm_syntax.specs.declared.instruction.UnaryOperator.{UnaryOperator}
use Rattle.wasm_syntax.specs.declared.instruction.UnaryOperator.TheVariants as unary
use Rattle.wasm_syntax.specs.declared.instruction.BinaryOperator.{BinaryOperator}
use Rattle.wasm_syntax.specs.declared.instruction.BinaryOperator.TheVariants as binary
use Rattle.wasm_syntax.specs.declared.instruction.FloatType.{FloatType}
use Rattle.wasm_syntax.specs.declared.instruction.FloatType.TheVariants as float_type
use Rattle.wasm_syntax.specs.declared.instruction.FloatComparison.{FloatComparison}
use Rattle.wasm_syntax.specs.declared.instruction.FloatComparison.TheVariants as float_comparison
use Rattle.wasm_syntax.specs.declared.instruction.FloatUnaryOperator.{FloatUnaryOperator}
use Rattle.wasm_syntax.specs.declared.instruction.FloatUnaryOperator.TheVariants as float_unary
use Rattle.wasm_syntax.specs.declared.instruction.FloatBinaryOperator.{FloatBinaryOperator}
use Rattle.wasm_syntax.specs.declared.instruction.FloatBinaryOperator.TheVariants as float_binary
use Rattle.wasm_syntax.specs.declared.instruction.FloatOperator.{FloatOperator}
use Rattle.wasm_syntax.specs.declared.instruction.FloatOperator.TheVariants as float_op
use Rattle.wasm_syntax.specs.declared.instruction.Instruction.{Instruction}
use Rattle.wasm_syntax.specs.declared.instruction.Instruction.TheVariants as op
use Rattle.wasm_syntax.specs.declared.open_blocks.OpenBlock.{OpenBlock}
use Rattle.wasm_syntax.specs.declared.open_blocks.OpenBlock.TheVariants.{Plain, Conditional}
use Rattle.wasm_syntax.specs.internal.TypesReading.{takes_floats, with_floats, block_type_at}
use Rattle.wasm_syntax.specs.Reading.{◌>>=◌, Reader, byte_at, number_at, u32_at, next_at, then_at, map_at, vector_at}

unfoldable pub s32_at : Reader ℕ
s32_at = number_at Signed 32

unfoldable pub s64_at : Reader ℕ
s64_at = number_at Signed 64

unfoldable pub mem_arg_at : Reader MemArg
mem_arg_at = map_at (λ p. record { align = p.0; offset = p.1 }) (then_at u32_at u32_at)

-- ---- operators

abbrev pub is_between : ℕ → ℕ → ℕ → Bool
is_between low high b = nat_le low b && nat_le b high

unfoldable pub comparison_of : ℕ → Option Comparison
comparison_of n =
    if n == 0 then Some comparison.Eq else (
    if n == 1 then Some comparison.Ne else (
    if n == 2 then Some comparison.LtS else (
    if n == 3 then Some comparison.LtU else (
    if n == 4 then Some comparison.GtS else (
    if n == 5 then Some comparison.GtU else (
    if n == 6 then Some comparison.LeS else (
    if n == 7 then Some comparison.LeU else (
    if n == 8 then Some comparison.GeS else (
    if n == 9 then Some comparison.GeU else (
    None))))))))))

unfoldable pub binary_operator_of : ℕ → Option BinaryOperator
binary_operator_of n =
    if n == 0 then Some binary.Add else (
    if n == 1 then Some binary.Sub else (
    if n == 2 then Some binary.Mul else (
    if n == 3 then Some binary.DivS else (
    if n == 4 then Some binary.DivU else (
    if n == 5 then Some binary.RemS else (
    if n == 6 then Some binary.RemU else (
    if n == 7 then Some binary.And else (
    if n == 8 then Some binary.Or else (
    if n == 9 then Some binary.Xor else (
    if n == 10 then Some binary.Shl else (
    if n == 11 then Some binary.ShrS else (
    if n == 12 then Some binary.ShrU else (
    if n == 13 then Some binary.Rotl else (
    if n == 14 then Some binary.Rotr else (
    None)))))))))))))))

unfoldable pub unary_of : ℕ → Option (IntegerType × UnaryOperator)
unary_of b =
    if b == 0x67 then Some (I32, unary.Clz) else (
    if b == 0x68 then Some (I32, unary.Ctz) else (
    if b == 0x69 then Some (I32, unary.Popcnt) else (
    if b == 0x79 then Some (I64, unary.Clz) else (
    if b == 0x7A then Some (I64, unary.Ctz) else (
    if b == 0x7B then Some (I64, unary.Popcnt) else (
    if b == 0xC0 then Some (I32, unary.Extend8S) else (
    if b == 0xC1 then Some (I32, unary.Extend16S) else (
    if b == 0xC2 then Some (I64, unary.Extend8S) else (
    if b == 0xC3 then Some (I64, unary.Extend16S) else (
    if b == 0xC4 then Some (I64, unary.Extend32S) else (
    None)))))))))))

abbrev pub compared : IntegerType → ℕ → Option Instruction
compared t n = comparison_of n >>= λ o. Some (op.Compare t o)

abbrev pub operated : IntegerType → ℕ → Option Instruction
operated t n = binary_operator_of n >>= λ o. Some (op.Binary t o)

abbrev pub unary_instruction : ℕ → Option Instruction
unary_instruction b = unary_of b >>= λ p. Some (op.Unary p.0 p.1)

-- the instruction of this opcode that has nothing after it, of those on numbers
unfoldable pub numeric_of : ℕ → Option Instruction
numeric_of b =
    if b == 0x45 then Some (op.Eqz I32) else (
    if b == 0x50 then Some (op.Eqz I64) else (
    if b == 0xA7 then Some op.I32WrapI64 else (
    if b == 0xAC then Some op.I64ExtendI32S else (
    if b == 0xAD then Some op.I64ExtendI32U else (
    if is_between 0x46 0x4F b then compared I32 (b - 0x46) else (
    if is_between 0x51 0x5A b then compared I64 (b - 0x51) else (
    if is_between 0x6A 0x78 b then operated I32 (b - 0x6A) else (
    if is_between 0x7C 0x8A b then operated I64 (b - 0x7C) else (
    unary_instruction b)))))))))

unfoldable pub numeric_after : ℕ → Reader Instruction
numeric_after b rest = numeric_of b >>= λ i. Some (i, rest)

-- ---- floats

unfoldable pub float_comparison_of : ℕ → Option FloatComparison
float_comparison_of n =
    if n == 0 then Some float_comparison.Eq else (
    if n == 1 then Some float_comparison.Ne else (
    if n == 2 then Some float_comparison.Lt else (
    if n == 3 then Some float_comparison.Gt else (
    if n == 4 then Some float_comparison.Le else (
    if n == 5 then Some float_comparison.Ge else (
    None))))))

unfoldable pub float_unary_of : ℕ → Option FloatUnaryOperator
float_unary_of n =
    if n == 0 then Some float_unary.Abs else (
    if n == 1 then Some float_unary.Neg else (
    if n == 2 then Some float_unary.Ceil else (
    if n == 3 then Some float_unary.Floor else (
    if n == 4 then Some float_unary.Trunc else (
    if n == 5 then Some float_unary.Nearest else (
    if n == 6 then Some float_unary.Sqrt else (
    None)))))))

unfoldable pub float_binary_of : ℕ → Option FloatBinaryOperator
float_binary_of n =
    if n == 0 then Some float_binary.Add else (
    if n == 1 then Some float_binary.Sub else (
    if n == 2 then Some float_binary.Mul else (
    if n == 3 then Some float_binary.Div else (
    if n == 4 then Some float_binary.Min else (
    if n == 5 then Some float_binary.Max else (
    if n == 6 then Some float_binary.Copysign else (
    None)))))))

abbrev pub float_compared : FloatType → ℕ → Option FloatOperator
float_compared f n = float_comparison_of n >>= λ o. Some (float_op.Compare f o)

abbrev pub float_of_one : FloatType → ℕ → Option FloatOperator
float_of_one f n = float_unary_of n >>= λ o. Some (float_op.Unary f o)

abbrev pub float_of_two : FloatType → ℕ → Option FloatOperator
float_of_two f n = float_binary_of n >>= λ o. Some (float_op.Binary f o)

-- the conversion of this opcode
unfoldable pub conversion_of : ℕ → Option FloatOperator
conversion_of b =
    if b == 0xA8 then Some (float_op.Truncate I32 float_type.F32 Signed) else (
    if b == 0xA9 then Some (float_op.Truncate I32 float_type.F32 Unsigned) else (
    if b == 0xAA then Some (float_op.Truncate I32 float_type.F64 Signed) else (
    if b == 0xAB then Some (float_op.Truncate I32 float_type.F64 Unsigned) else (
    if b == 0xAE then Some (float_op.Truncate I64 float_type.F32 Signed) else (
    if b == 0xAF then Some (float_op.Truncate I64 float_type.F32 Unsigned) else (
    if b == 0xB0 then Some (float_op.Truncate I64 float_type.F64 Signed) else (
    if b == 0xB1 then Some (float_op.Truncate I64 float_type.F64 Unsigned) else (
    if b == 0xB2 then Some (float_op.Convert float_type.F32 I32 Signed) else (
    if b == 0xB3 then Some (float_op.Convert float_type.F32 I32 Unsigned) else (
    if b == 0xB4 then Some (float_op.Convert float_type.F32 I64 Signed) else (
    if b == 0xB5 then Some (float_op.Convert float_type.F32 I64 Unsigned) else (
    if b == 0xB6 then Some float_op.Demote else (
    if b == 0xB7 then Some (float_op.Convert float_type.F64 I32 Signed) else (
    if b == 0xB8 then Some (float_op.Convert float_type.F64 I32 Unsigned) else (
    if b == 0xB9 then Some (float_op.Convert float_type.F64 I64 Signed) else (
    if b == 0xBA then Some (float_op.Convert float_type.F64 I64 Unsigned) else (
    if b == 0xBB then Some float_op.Promote else (
    if b == 0xBC then Some (float_op.ToBits float_type.F32) else (
    if b == 0xBD then Some (float_op.ToBits float_type.F64) else (
    if b == 0xBE then Some (float_op.FromBits float_type.F32) else (
    if b == 0xBF then Some (float_op.FromBits float_type.F64) else (
    None))))))))))))))))))))))

-- the conversion of this number after FC
unfoldable pub saturation_of : ℕ → Option FloatOperator
saturation_of n =
    if n == 0 then Some (float_op.Saturate I32 float_type.F32 Signed) else (
    if n == 1 then Some (float_op.Saturate I32 float_type.F32 Unsigned) else (
    if n == 2 then Some (float_op.Saturate I32 float_type.F64 Signed) else (
    if n == 3 then Some (float_op.Saturate I32 float_type.F64 Unsigned) else (
    if n == 4 then Some (float_op.Saturate I64 float_type.F32 Signed) else (
    if n == 5 then Some (float_op.Saturate I64 float_type.F32 Unsigned) else (
    if n == 6 then Some (float_op.Saturate I64 float_type.F64 Signed) else (
    if n == 7 then Some (float_op.Saturate I64 float_type.F64 Unsigned) else (
    None))))))))

-- the operator on floats of this opcode
unfoldable pub float_operator_of : ℕ → Option FloatOperator
float_operator_of b =
    if is_between 0x5B 0x60 b then float_compared float_type.F32 (b - 0x5B) else (
    if is_between 0x61 0x66 b then float_compared float_type.F64 (b - 0x61) else (
    if is_between 0x8B 0x91 b then float_of_one float_type.F32 (b - 0x8B) else (
    if is_between 0x92 0x98 b then float_of_two float_type.F32 (b - 0x92) else (
    if is_between 0x99 0x9F b then float_of_one float_type.F64 (b - 0x99) else (
    if is_between 0xA0 0xA6 b then float_of_two float_type.F64 (b - 0xA0) else (
    conversion_of b))))))

-- the opcodes of floats that have no place among loads and stores
abbrev pub is_float : ℕ → Bool
is_float b = is_between 0x43 0x44 b || (is_between 0x5B 0x66 b || (is_between 0x8B 0xA6 b || (is_between 0xA8 0xAB b || is_between 0xAE 0xBF b)))

-- the bits of a float, in four bytes and in eight
unfoldable pub four_bytes_at : Reader ℕ
four_bytes_at bytes =
    next_at bytes >>= λ a. next_at a.1 >>= λ b. next_at b.1 >>= λ c. next_at c.1 >>= λ d.
    Some (a.0 + 256 * (b.0 + 256 * (c.0 + 256 * d.0)), d.1)

unfoldable pub eight_bytes_at : Reader ℕ
eight_bytes_at = map_at (λ x. x.0 + 2 ^ 32 * x.1) (then_at four_bytes_at four_bytes_at)

unfoldable pub float_after : ℕ → Reader Instruction
float_after b =
    if b == 0x43 then map_at op.F32Const four_bytes_at else (
    if b == 0x44 then map_at op.F64Const eight_bytes_at else (
    λ rest. float_operator_of b >>= λ o. Some (op.Float o, rest)))

-- what is read only with floats
abbrev pub floats_at : {X : Type 0} → Profile → Reader X → Reader X
floats_at p a bytes = if takes_floats p then a bytes else None

-- ---- the others, by their opcodes

abbrev pub branch_table_at : Reader Instruction
branch_table_at = map_at op.BrTable (then_at (vector_at u32_at) u32_at)

-- the table of an indirect call
unfoldable pub only_table_at : Profile → Reader (Unit {0})
only_table_at Integers bytes = byte_at 0x00 bytes
only_table_at Floats bytes = u32_at bytes >>= λ n. if n.0 == 0 then Some (tt, n.1) else None

abbrev pub call_indirect_at : Profile → Reader Instruction
call_indirect_at p = map_at (λ x. op.CallIndirect x.0) (then_at u32_at (only_table_at p))

unfoldable pub control_after : Profile → ℕ → Reader Instruction
control_after p b =
    if b == 0x00 then (λ rest. Some (op.Unreachable, rest)) else (
    if b == 0x01 then (λ rest. Some (op.Nop, rest)) else (
    if b == 0x02 then map_at op.Block (block_type_at p) else (
    if b == 0x03 then map_at op.Loop (block_type_at p) else (
    if b == 0x04 then map_at op.If (block_type_at p) else (
    if b == 0x05 then (λ rest. Some (op.Else, rest)) else (
    if b == 0x0B then (λ rest. Some (op.End, rest)) else (
    if b == 0x0C then map_at op.Br u32_at else (
    if b == 0x0D then map_at op.BrIf u32_at else (
    if b == 0x0E then branch_table_at else (
    if b == 0x0F then (λ rest. Some (op.Return, rest)) else (
    if b == 0x10 then map_at op.Call u32_at else (
    if b == 0x11 then call_indirect_at p else (
    (λ rest. None))))))))))))))

unfoldable pub variable_after : ℕ → Reader Instruction
variable_after b =
    if b == 0x1A then (λ rest. Some (op.Drop, rest)) else (
    if b == 0x1B then (λ rest. Some (op.Select, rest)) else (
    if b == 0x20 then map_at op.LocalGet u32_at else (
    if b == 0x21 then map_at op.LocalSet u32_at else (
    if b == 0x22 then map_at op.LocalTee u32_at else (
    if b == 0x23 then map_at op.GlobalGet u32_at else (
    if b == 0x24 then map_at op.GlobalSet u32_at else (
    (λ rest. None))))))))

unfoldable pub load_of : Profile → ℕ → Option LoadOperator
load_of p b =
    if b == 0x28 then Some load.I32Load else (
    if b == 0x29 then Some load.I64Load else (
    if b == 0x2A then with_floats p load.F32Load else (
    if b == 0x2B then with_floats p load.F64Load else (
    if b == 0x2C then Some load.I32Load8S else (
    if b == 0x2D then Some load.I32Load8U else (
    if b == 0x2E then Some load.I32Load16S else (
    if b == 0x2F then Some load.I32Load16U else (
    if b == 0x30 then Some load.I64Load8S else (
    if b == 0x31 then Some load.I64Load8U else (
    if b == 0x32 then Some load.I64Load16S else (
    if b == 0x33 then Some load.I64Load16U else (
    if b == 0x34 then Some load.I64Load32S else (
    if b == 0x35 then Some load.I64Load32U else (
    None))))))))))))))

unfoldable pub load_after : Profile → ℕ → Reader Instruction
load_after p b rest = load_of p b >>= λ o. map_at (op.Load o) mem_arg_at rest

unfoldable pub store_of : Profile → ℕ → Option StoreOperator
store_of p b =
    if b == 0x36 then Some store.I32Store else (
    if b == 0x37 then Some store.I64Store else (
    if b == 0x38 then with_floats p store.F32Store else (
    if b == 0x39 then with_floats p store.F64Store else (
    if b == 0x3A then Some store.I32Store8 else (
    if b == 0x3B then Some store.I32Store16 else (
    if b == 0x3C then Some store.I64Store8 else (
    if b == 0x3D then Some store.I64Store16 else (
    if b == 0x3E then Some store.I64Store32 else (
    None)))))))))

unfoldable pub store_after : Profile → ℕ → Reader Instruction
store_after p b rest = store_of p b >>= λ o. map_at (op.Store o) mem_arg_at rest

-- the size of memory and its growth
unfoldable pub size_after : ℕ → Reader Instruction
size_after b =
    if b == 0x3F then map_at (λ x. op.MemorySize) (byte_at 0x00) else (
    if b == 0x40 then map_at (λ x. op.MemoryGrow) (byte_at 0x00) else (
    (λ rest. None)))

-- the beginning of a block with this opcode, with its type
unfoldable pub block_with : ℕ → BlockType → Option Instruction
block_with b t =
    if b == 0x02 then Some (op.Block t) else (
    if b == 0x03 then Some (op.Loop t) else (
    if b == 0x04 then Some (op.If t) else (
    None)))

-- the branch of this opcode, with its label
unfoldable pub branch_with : ℕ → ℕ → Option Instruction
branch_with b n =
    if b == 0x0C then Some (op.Br n) else (
    if b == 0x0D then Some (op.BrIf n) else (
    None))

-- the instruction on a variable of this opcode, with its index
unfoldable pub variable_with : ℕ → ℕ → Option Instruction
variable_with b n =
    if b == 0x20 then Some (op.LocalGet n) else (
    if b == 0x21 then Some (op.LocalSet n) else (
    if b == 0x22 then Some (op.LocalTee n) else (
    if b == 0x23 then Some (op.GlobalGet n) else (
    if b == 0x24 then Some (op.GlobalSet n) else (
    None)))))

-- the saturating conversion of this number after FC
abbrev pub saturated : Profile → ℕ → Option Instruction
saturated p n = saturation_of n >>= λ o. with_floats p (op.Float o)

-- the instruction of this number after FC
unfoldable pub bulk_after : Profile → ℕ → Reader Instruction
bulk_after p n =
    if n == 10 then map_at (λ x. op.MemoryCopy) (then_at (byte_at 0x00) (byte_at 0x00)) else (
    if n == 11 then map_at (λ x. op.MemoryFill) (byte_at 0x00) else (
    λ rest. saturated p n >>= λ i. Some (i, rest)))

unfoldable pub bulk_at : Profile → Reader Instruction
bulk_at p bytes = u32_at bytes >>= λ n. bulk_after p n.0 n.1

-- the instruction of this opcode that is one on numbers
unfoldable pub operator_after : Profile → ℕ → Reader Instruction
operator_after p b = if is_float b then floats_at p (float_after b) else numeric_after b

-- the instruction of this opcode
unfoldable pub instruction_after : Profile → ℕ → Reader Instruction
instruction_after p b =
    if b == 0x41 then map_at op.I32Const s32_at else (
    if b == 0x42 then map_at op.I64Const s64_at else (
    if b == 0xFC then bulk_at p else (
    if nat_lt b 0x12 then control_after p b else (
    if nat_lt b 0x28 then variable_after b else (
    if nat_lt b 0x36 then load_after p b else (
    if nat_lt b 0x3F then store_after p b else (
    if nat_lt b 0x41 then size_after b else (
    operator_after p b))))))))

unfoldable pub instruction_at : Profile → Reader Instruction
instruction_at p bytes = next_at bytes >>= λ b. instruction_after p b.0 b.1

-- the blocks that are open, after one more instruction
unfoldable pub after_instruction : Instruction → List OpenBlock → Option (List OpenBlock)
after_instruction i [] = None
after_instruction (op.Block t) (f ∷ fs) = Some (Plain ∷ f ∷ fs)
after_instruction (op.Loop t) (f ∷ fs) = Some (Plain ∷ f ∷ fs)
after_instruction (op.If t) (f ∷ fs) = Some (Conditional ∷ f ∷ fs)
after_instruction op.Else (Conditional ∷ fs) = Some (Plain ∷ fs)
after_instruction op.Else (Plain ∷ fs) = None
after_instruction op.End (f ∷ fs) = Some fs
after_instruction i (f ∷ fs) = Some (f ∷ fs)

-- instructions up to the one that closes the last open block, at most n
unfoldable pub code_from : Profile → ℕ → List OpenBlock → Reader (List Instruction)
code_from p zero fs bytes = None
code_from p (suc n) fs bytes = instruction_at p bytes >>= λ i. after_instruction i.0 fs >>= λ gs.
    if length gs == 0 then Some (i.0 ∷ [], i.1) else (code_from p n gs i.1 >>= λ is. Some (i.0 ∷ is.0, is.1))

-- one instruction more after these, with these blocks open: the code and the open blocks with it
unfoldable pub one_more_at : Profile → List Instruction → List OpenBlock → Reader (List Instruction × List OpenBlock)
one_more_at p front fs bytes = instruction_at p bytes >>= λ i. after_instruction i.0 fs >>= λ gs. Some ((front ++ i.0 ∷ [], gs), i.1)

unfoldable pub code_at : Profile → Reader (List Instruction)
code_at p bytes = code_from p (length bytes) (Plain ∷ []) bytes
