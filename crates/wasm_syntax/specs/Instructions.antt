-- How bytes spell instructions (section 5.4); as they nest they stand in `Nested`.
use Rattle.std.specs.Prelude.{◌≡◌, ℕ, ◌+◌, ◌*◌, List, [], ◌∷◌, ◌++◌}
use Rattle.wasm_syntax.specs.declared.number.Sign.{Sign}
use Rattle.wasm_syntax.specs.declared.number.Sign.TheVariants.{Unsigned, Signed}
use Rattle.wasm_syntax.specs.declared.profile.Profile.{Profile}
use Rattle.wasm_syntax.specs.declared.profile.Profile.TheVariants.{Integers, Floats}
use Rattle.wasm_syntax.specs.declared.instruction.IntegerType.{IntegerType}
use Rattle.wasm_syntax.specs.declared.instruction.IntegerType.TheVariants.{I32, I64}
use Rattle.wasm_syntax.specs.declared.instruction.MemArg.{MemArg}
use Rattle.wasm_syntax.specs.declared.accesses.LoadOperator.{LoadOperator}
use Rattle.wasm_syntax.specs.declared.accesses.LoadOperator.TheVariants as load
use Rattle.wasm_syntax.specs.declared.accesses.StoreOperator.{StoreOperator}
use Rattle.wasm_syntax.specs.declared.accesses.StoreOperator.TheVariants as store
use Rattle.wasm_syntax.specs.declared.instruction.Comparison.{Comparison}
use Rattle.wasm_syntax.specs.declared.instruction.Comparison.TheVariants.{Eq, Ne, LtS, LtU, GtS, GtU, LeS, LeU, GeS, GeU}
use Rattle.wasm_syntax.specs.declared.instruction.UnaryOperator.{UnaryOperator}
use Rattle.wasm_syntax.specs.declared.instruction.UnaryOperator.TheVariants.{Clz, Ctz, Popcnt, Extend8S, Extend16S, Extend32S}
use Rattle.wasm_syntax.specs.declared.instruction.BinaryOperator.{BinaryOperator}
use Rattle.wasm_syntax.specs.declared.instruction.BinaryOperator.TheVariants.{Add, Sub, Mul, DivS, DivU, RemS, RemU, And, Or, Xor, Shl, ShrS, ShrU, Rotl, Rotr}
use Rattle.wasm_syntax.specs.declared.instruction.FloatType.{FloatType}
use Rattle.wasm_syntax.specs.declared.instruction.FloatType.TheVariants as float_type
use Rattle.wasm_syntax.specs.declared.instruction.FloatComparison.{FloatComparison}
use Rattle.wasm_syntax.specs.declared.instruction.FloatComparison.TheVariants as float_comparison
use Rattle.wasm_syntax.specs.declared.instruction.FloatUnaryOperator.{FloatUnaryOperator}
use Rattle.wasm_syntax.specs.declared.instruction.FloatUnaryOperator.TheVariants as float_unary
use Rattle.wasm_syntax.specs.declared.instruction.FloatBinaryOperator.{FloatBinaryOperator}
use Rattle.wasm_syntax.specs.declared.instruction.FloatBinaryOperator.TheVariants as float_binary
use Rattle.wasm_syntax.specs.declared.instruction.FloatOperator.{FloatOperator}
use Rattle.wasm_syntax.specs.declared.instruction.FloatOperator.TheVariants as float_op
use Rattle.wasm_syntax.specs.declared.instruction.Instruction.{Instruction}
use Rattle.wasm_syntax.specs.declared.instruction.Instruction.TheVariants as op
use Rattle.wasm_syntax.specs.Number.{SpellsNumber}
use Rattle.wasm_syntax.specs.Grammar.{Byte, Then, U32, Vector, FloatBits}
use Rattle.wasm_syntax.specs.Profile.{TakesType}
use Rattle.wasm_syntax.specs.Accesses.{load_access, store_access}
use Rattle.wasm_syntax.specs.Types.{SpellsBlockType}
pub use Rattle.wasm_syntax.specs.Nested.{Instructions, done, plain, block, loop, if_then, if_else, invoke, append, IsPlain, flatten, IsWritten, Nests}

-- ---- as they are spelled

abbrev pub comparison_number : Comparison → ℕ
comparison_number Eq = 0
comparison_number Ne = 1
comparison_number LtS = 2
comparison_number LtU = 3
comparison_number GtS = 4
comparison_number GtU = 5
comparison_number LeS = 6
comparison_number LeU = 7
comparison_number GeS = 8
comparison_number GeU = 9

abbrev pub binary_operator_number : BinaryOperator → ℕ
binary_operator_number Add = 0
binary_operator_number Sub = 1
binary_operator_number Mul = 2
binary_operator_number DivS = 3
binary_operator_number DivU = 4
binary_operator_number RemS = 5
binary_operator_number RemU = 6
binary_operator_number And = 7
binary_operator_number Or = 8
binary_operator_number Xor = 9
binary_operator_number Shl = 10
binary_operator_number ShrS = 11
binary_operator_number ShrU = 12
binary_operator_number Rotl = 13
binary_operator_number Rotr = 14

abbrev pub unary_opcode : IntegerType → UnaryOperator → ℕ
unary_opcode I32 Clz = 0x67
unary_opcode I32 Ctz = 0x68
unary_opcode I32 Popcnt = 0x69
unary_opcode I64 Clz = 0x79
unary_opcode I64 Ctz = 0x7A
unary_opcode I64 Popcnt = 0x7B
unary_opcode I32 Extend8S = 0xC0
unary_opcode I32 Extend16S = 0xC1
unary_opcode I64 Extend8S = 0xC2
unary_opcode I64 Extend16S = 0xC3
unary_opcode t Extend32S = 0xC4

abbrev pub load_opcode : LoadOperator → ℕ
load_opcode load.I32Load = 0x28
load_opcode load.I64Load = 0x29
load_opcode load.F32Load = 0x2A
load_opcode load.F64Load = 0x2B
load_opcode load.I32Load8S = 0x2C
load_opcode load.I32Load8U = 0x2D
load_opcode load.I32Load16S = 0x2E
load_opcode load.I32Load16U = 0x2F
load_opcode load.I64Load8S = 0x30
load_opcode load.I64Load8U = 0x31
load_opcode load.I64Load16S = 0x32
load_opcode load.I64Load16U = 0x33
load_opcode load.I64Load32S = 0x34
load_opcode load.I64Load32U = 0x35

abbrev pub store_opcode : StoreOperator → ℕ
store_opcode store.I32Store = 0x36
store_opcode store.I64Store = 0x37
store_opcode store.F32Store = 0x38
store_opcode store.F64Store = 0x39
store_opcode store.I32Store8 = 0x3A
store_opcode store.I32Store16 = 0x3B
store_opcode store.I64Store8 = 0x3C
store_opcode store.I64Store16 = 0x3D
store_opcode store.I64Store32 = 0x3E

abbrev pub float_comparison_number : FloatComparison → ℕ
float_comparison_number float_comparison.Eq = 0
float_comparison_number float_comparison.Ne = 1
float_comparison_number float_comparison.Lt = 2
float_comparison_number float_comparison.Gt = 3
float_comparison_number float_comparison.Le = 4
float_comparison_number float_comparison.Ge = 5

abbrev pub float_unary_number : FloatUnaryOperator → ℕ
float_unary_number float_unary.Abs = 0
float_unary_number float_unary.Neg = 1
float_unary_number float_unary.Ceil = 2
float_unary_number float_unary.Floor = 3
float_unary_number float_unary.Trunc = 4
float_unary_number float_unary.Nearest = 5
float_unary_number float_unary.Sqrt = 6

abbrev pub float_binary_number : FloatBinaryOperator → ℕ
float_binary_number float_binary.Add = 0
float_binary_number float_binary.Sub = 1
float_binary_number float_binary.Mul = 2
float_binary_number float_binary.Div = 3
float_binary_number float_binary.Min = 4
float_binary_number float_binary.Max = 5
float_binary_number float_binary.Copysign = 6

-- conversions stand in pairs, the signed one first
abbrev pub sign_number : Sign → ℕ
sign_number Signed = 0
sign_number Unsigned = 1

-- those of f32 and of i32 stand before the others
abbrev pub float_type_number : FloatType → ℕ
float_type_number float_type.F32 = 0
float_type_number float_type.F64 = 1

abbrev pub integer_type_number : IntegerType → ℕ
integer_type_number I32 = 0
integer_type_number I64 = 1

abbrev pub float_opcode : FloatOperator → ℕ
float_opcode (float_op.Compare float_type.F32 o) = 0x5B + float_comparison_number o
float_opcode (float_op.Compare float_type.F64 o) = 0x61 + float_comparison_number o
float_opcode (float_op.Unary float_type.F32 o) = 0x8B + float_unary_number o
float_opcode (float_op.Binary float_type.F32 o) = 0x92 + float_binary_number o
float_opcode (float_op.Unary float_type.F64 o) = 0x99 + float_unary_number o
float_opcode (float_op.Binary float_type.F64 o) = 0xA0 + float_binary_number o
float_opcode (float_op.Truncate I32 f s) = 0xA8 + (2 * float_type_number f + sign_number s)
float_opcode (float_op.Truncate I64 f s) = 0xAE + (2 * float_type_number f + sign_number s)
float_opcode (float_op.Convert float_type.F32 t s) = 0xB2 + (2 * integer_type_number t + sign_number s)
float_opcode float_op.Demote = 0xB6
float_opcode (float_op.Convert float_type.F64 t s) = 0xB7 + (2 * integer_type_number t + sign_number s)
float_opcode float_op.Promote = 0xBB
float_opcode (float_op.ToBits f) = 0xBC + float_type_number f
float_opcode (float_op.FromBits f) = 0xBE + float_type_number f
float_opcode (float_op.Saturate t f s) = 0xFC

-- the number after FC
abbrev pub saturation_number : IntegerType → FloatType → Sign → ℕ
saturation_number t f s = 4 * integer_type_number t + (2 * float_type_number f + sign_number s)

-- the byte that an instruction begins with
abbrev pub opcode : Instruction → ℕ
opcode op.Unreachable = 0x00
opcode op.Nop = 0x01
opcode (op.Block t) = 0x02
opcode (op.Loop t) = 0x03
opcode (op.If t) = 0x04
opcode op.Else = 0x05
opcode op.End = 0x0B
opcode (op.Br l) = 0x0C
opcode (op.BrIf l) = 0x0D
opcode (op.BrTable b) = 0x0E
opcode op.Return = 0x0F
opcode (op.Call x) = 0x10
opcode (op.CallIndirect x) = 0x11
opcode op.Drop = 0x1A
opcode op.Select = 0x1B
opcode (op.LocalGet x) = 0x20
opcode (op.LocalSet x) = 0x21
opcode (op.LocalTee x) = 0x22
opcode (op.GlobalGet x) = 0x23
opcode (op.GlobalSet x) = 0x24
opcode (op.Load o m) = load_opcode o
opcode (op.Store o m) = store_opcode o
opcode op.MemorySize = 0x3F
opcode op.MemoryGrow = 0x40
opcode op.MemoryCopy = 0xFC
opcode op.MemoryFill = 0xFC
opcode (op.I32Const n) = 0x41
opcode (op.I64Const n) = 0x42
opcode (op.Eqz I32) = 0x45
opcode (op.Eqz I64) = 0x50
opcode (op.Compare I32 o) = 0x46 + comparison_number o
opcode (op.Compare I64 o) = 0x51 + comparison_number o
opcode (op.Unary t o) = unary_opcode t o
opcode (op.Binary I32 o) = 0x6A + binary_operator_number o
opcode (op.Binary I64 o) = 0x7C + binary_operator_number o
opcode op.I32WrapI64 = 0xA7
opcode op.I64ExtendI32S = 0xAC
opcode op.I64ExtendI32U = 0xAD
opcode (op.F32Const n) = 0x43
opcode (op.F64Const n) = 0x44
opcode (op.Float o) = float_opcode o

abbrev pub SpellsMemArg : List ℕ → MemArg → Type 0
SpellsMemArg text m = Then U32 U32 text (m.align, m.offset)

-- The table of an indirect call, of which there is one. Without floats it is the byte 00, with them a number.
abbrev pub SpellsOnlyTable : Profile → List ℕ → Unit {0} → Type 0
SpellsOnlyTable Integers text x = Byte 0x00 text x
SpellsOnlyTable Floats text x = U32 text 0

-- what follows the opcode of an operator on floats
abbrev pub SpellsFloatNumber : List ℕ → FloatOperator → Type 0
SpellsFloatNumber text (float_op.Saturate t f s) = U32 text (saturation_number t f s)
SpellsFloatNumber text o = text ≡ []

-- what follows the opcode
abbrev pub SpellsImmediates : Profile → List ℕ → Instruction → Type 0
SpellsImmediates p text (op.Block t) = SpellsBlockType p text t
SpellsImmediates p text (op.Loop t) = SpellsBlockType p text t
SpellsImmediates p text (op.If t) = SpellsBlockType p text t
SpellsImmediates p text (op.Br l) = U32 text l
SpellsImmediates p text (op.BrIf l) = U32 text l
SpellsImmediates p text (op.BrTable b) = Then (Vector U32) U32 text b
SpellsImmediates p text (op.Call x) = U32 text x
SpellsImmediates p text (op.CallIndirect x) = Then U32 (SpellsOnlyTable p) text (x, tt)
SpellsImmediates p text (op.LocalGet x) = U32 text x
SpellsImmediates p text (op.LocalSet x) = U32 text x
SpellsImmediates p text (op.LocalTee x) = U32 text x
SpellsImmediates p text (op.GlobalGet x) = U32 text x
SpellsImmediates p text (op.GlobalSet x) = U32 text x
SpellsImmediates p text (op.Load o m) = TakesType p (load_access o).value_type × SpellsMemArg text m
SpellsImmediates p text (op.Store o m) = TakesType p (store_access o).value_type × SpellsMemArg text m
SpellsImmediates p text op.MemorySize = Byte 0x00 text tt
SpellsImmediates p text op.MemoryGrow = Byte 0x00 text tt
SpellsImmediates p text op.MemoryCopy = Then U32 (Then (Byte 0x00) (Byte 0x00)) text (10, (tt, tt))
SpellsImmediates p text op.MemoryFill = Then U32 (Byte 0x00) text (11, tt)
SpellsImmediates p text (op.I32Const n) = SpellsNumber Signed 32 text n
SpellsImmediates p text (op.I64Const n) = SpellsNumber Signed 64 text n
SpellsImmediates p text (op.F32Const n) = (p ≡ Floats) × FloatBits 4 text n
SpellsImmediates p text (op.F64Const n) = (p ≡ Floats) × FloatBits 8 text n
SpellsImmediates p text (op.Float o) = (p ≡ Floats) × SpellsFloatNumber text o
-- there is no such operator
SpellsImmediates p text (op.Unary I32 Extend32S) = ⊥
SpellsImmediates p text i = text ≡ []

-- one instruction (sections 5.4.1 to 5.4.5); of a block, its beginning
abbrev pub SpellsInstruction : Profile → List ℕ → Instruction → Type 0
SpellsInstruction p text i = (immediates : List ℕ) × SpellsImmediates p immediates i × (text ≡ opcode i ∷ immediates)

-- instructions and the byte that ends them: 0B, or 05 before an else's part (section 5.4.1)
abbrev pub SpellsUpTo : Profile → ℕ → List ℕ → Instructions → Type 0
SpellsUpTo p last text done = text ≡ last ∷ []
SpellsUpTo p last text (plain i rest) =
    (a : List ℕ) × (b : List ℕ) × IsPlain i × SpellsInstruction p a i × SpellsUpTo p last b rest × (text ≡ a ++ b)
SpellsUpTo p last text (block t body rest) =
    (a : List ℕ) × (b : List ℕ) × (c : List ℕ) × SpellsInstruction p a (op.Block t) × SpellsUpTo p 0x0B b body × SpellsUpTo p last c rest × (text ≡ a ++ b ++ c)
SpellsUpTo p last text (loop t body rest) =
    (a : List ℕ) × (b : List ℕ) × (c : List ℕ) × SpellsInstruction p a (op.Loop t) × SpellsUpTo p 0x0B b body × SpellsUpTo p last c rest × (text ≡ a ++ b ++ c)
SpellsUpTo p last text (if_then t body rest) =
    (a : List ℕ) × (b : List ℕ) × (c : List ℕ) × SpellsInstruction p a (op.If t) × SpellsUpTo p 0x0B b body × SpellsUpTo p last c rest × (text ≡ a ++ b ++ c)
SpellsUpTo p last text (if_else t body other rest) =
    (a : List ℕ) × (b : List ℕ) × (c : List ℕ) × (d : List ℕ) × SpellsInstruction p a (op.If t) × SpellsUpTo p 0x05 b body × SpellsUpTo p 0x0B c other × SpellsUpTo p last d rest × (text ≡ a ++ b ++ c ++ d)
SpellsUpTo p last text (invoke x rest) = ⊥

-- an expression (section 5.4.6), of which the decoded instructions are kept
abbrev pub SpellsExpression : Profile → List ℕ → List Instruction → Type 0
SpellsExpression p text flat = (code : Instructions) × SpellsUpTo p 0x0B text code × (flatten op.End code ≡ flat)
