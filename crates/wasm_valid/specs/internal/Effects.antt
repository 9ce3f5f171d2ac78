-- What each plain instruction does to the types on the stack (section 3.3), as one walk over the code finds it. Most
-- take and give types that the instruction and the context fix (an `Effect`); `after` covers all of them, branches,
-- calls, `drop` and `select` too.
use Rattle.std.specs.Prelude.{ℕ, List, [], ◌∷◌, Option, Some, None, Bool, true, false, ◌&&◌, nat_le, slice_get, reverse}
use Rattle.wasm_valid.specs.internal.Stack.{pop}
use Rattle.std.specs.List.{list_all}
use Rattle.std.specs.Option.{option_map, option_and_then}
use Rattle.wasm_syntax.specs.declared.instruction.ValueType.{ValueType}
use Rattle.wasm_syntax.specs.declared.instruction.ValueType.TheVariants.{I32, I64, F32, F64}
use Rattle.wasm_syntax.specs.declared.instruction.IntegerType.{IntegerType}
use Rattle.wasm_syntax.specs.declared.instruction.IntegerType.TheVariants as int
use Rattle.wasm_syntax.specs.declared.instruction.FloatOperator.{FloatOperator}
use Rattle.wasm_syntax.specs.declared.instruction.FloatOperator.TheVariants as float_op
use Rattle.wasm_syntax.specs.declared.instruction.BlockType.{BlockType}
use Rattle.wasm_syntax.specs.declared.instruction.BlockType.TheVariants.{Empty, Value}
use Rattle.wasm_syntax.specs.declared.instruction.MemArg.{MemArg}
use Rattle.wasm_syntax.specs.declared.instruction.UnaryOperator.{UnaryOperator}
use Rattle.wasm_syntax.specs.declared.instruction.UnaryOperator.TheVariants.{Extend32S}
use Rattle.wasm_syntax.specs.declared.instruction.Instruction.{Instruction}
use Rattle.wasm_syntax.specs.declared.instruction.Instruction.TheVariants as op
use Rattle.wasm_syntax.specs.declared.module.FuncType.{FuncType}
use Rattle.wasm_syntax.specs.ValueTypes.{integer, float}
use Rattle.wasm_syntax.specs.Accesses.{load_access, store_access}
use Rattle.wasm_valid.specs.declared.effects.Takes.{Takes}
use Rattle.wasm_valid.specs.declared.effects.Takes.TheVariants.{Nothing, One, Two, Three}
use Rattle.wasm_valid.specs.declared.effects.Effect.{Effect}
use Rattle.wasm_valid.specs.declared.effects.MemoryEffect.{MemoryEffect}
use Rattle.wasm_valid.specs.Arities.{results_of, as_wide, float_gives}
use Rattle.wasm_valid.specs.Typing.{Context, Labels}
use Rattle.wasm_valid.specs.internal.Stack.{Stack, anything, if_true, when, is_same, moved, left, dropped, selected}

-- ---- instructions of one type

abbrev pub taken : Takes → List ValueType
taken Nothing = []
taken (One t) = t ∷ []
taken (Two t u) = t ∷ u ∷ []
taken (Three t u v) = t ∷ u ∷ v ∷ []

abbrev pub effect : Takes → BlockType → Effect
effect t b = record { takes = t; gives = b }

abbrev pub access : ℕ → ℕ → Takes → BlockType → MemoryEffect
access align most t b = record { align = align; most = most; effect = effect t b }

abbrev pub load : MemArg → ℕ → ValueType → MemoryEffect
load m most t = access m.align most (One I32) (Value t)

abbrev pub store : MemArg → ℕ → ValueType → MemoryEffect
store m most t = access m.align most (Two t I32) Empty

-- instructions on memory: the size of memory and ranges of it have an alignment of 1 byte
abbrev pub access_of : Instruction → Option MemoryEffect
access_of (op.Load o m) = Some (load m (load_access o).width (load_access o).value_type)
access_of (op.Store o m) = Some (store m (store_access o).width (store_access o).value_type)
access_of op.MemorySize = Some (access 0 0 Nothing (Value I32))
access_of op.MemoryGrow = Some (access 0 0 (One I32) (Value I32))
access_of op.MemoryCopy = Some (access 0 0 (Three I32 I32 I32) Empty)
access_of op.MemoryFill = Some (access 0 0 (Three I32 I32 I32) Empty)
access_of i = None

-- extend32_s is only of i64
abbrev pub is_operator : IntegerType → UnaryOperator → Bool
is_operator int.I32 Extend32S = false
is_operator t o = true

-- what an operator on floats takes
abbrev pub float_operands : FloatOperator → Takes
float_operands (float_op.Compare f o) = Two (float f) (float f)
float_operands (float_op.Unary f o) = One (float f)
float_operands (float_op.Binary f o) = Two (float f) (float f)
float_operands (float_op.Truncate t f s) = One (float f)
float_operands (float_op.Saturate t f s) = One (float f)
float_operands (float_op.Convert f t s) = One (integer t)
float_operands float_op.Demote = One F64
float_operands float_op.Promote = One F32
float_operands (float_op.ToBits f) = One (float f)
float_operands (float_op.FromBits f) = One (integer (as_wide f))

-- instructions on numbers, and nop
abbrev pub numeric_effect : Instruction → Option Effect
numeric_effect op.Nop = Some (effect Nothing Empty)
numeric_effect (op.I32Const n) = Some (effect Nothing (Value I32))
numeric_effect (op.I64Const n) = Some (effect Nothing (Value I64))
numeric_effect (op.Eqz t) = Some (effect (One (integer t)) (Value I32))
numeric_effect (op.Compare t o) = Some (effect (Two (integer t) (integer t)) (Value I32))
numeric_effect (op.Unary t o) = if_true (is_operator t o) (effect (One (integer t)) (Value (integer t)))
numeric_effect (op.Binary t o) = Some (effect (Two (integer t) (integer t)) (Value (integer t)))
numeric_effect op.I32WrapI64 = Some (effect (One I64) (Value I32))
numeric_effect op.I64ExtendI32S = Some (effect (One I32) (Value I64))
numeric_effect op.I64ExtendI32U = Some (effect (One I32) (Value I64))
numeric_effect (op.F32Const n) = Some (effect Nothing (Value F32))
numeric_effect (op.F64Const n) = Some (effect Nothing (Value F64))
numeric_effect (op.Float o) = Some (effect (float_operands o) (Value (float_gives o)))
numeric_effect i = None

-- with or without a memory
abbrev pub accessed : Bool → Option MemoryEffect → Option Effect → Option Effect
accessed has_memory None other = other
accessed has_memory (Some a) other = if_true (has_memory && nat_le a.align a.most) a.effect

-- instructions on locals and globals
abbrev pub variable_effect : Context → Instruction → Option Effect
variable_effect c (op.LocalGet x) = option_map (λ t. effect Nothing (Value t)) (slice_get c.locals x)
variable_effect c (op.LocalSet x) = option_map (λ t. effect (One t) Empty) (slice_get c.locals x)
variable_effect c (op.LocalTee x) = option_map (λ t. effect (One t) (Value t)) (slice_get c.locals x)
variable_effect c (op.GlobalGet x) = option_map (λ g. effect Nothing (Value g.value_type)) (slice_get c.globals x)
variable_effect c (op.GlobalSet x) = option_and_then (λ g. if_true g.mutable (effect (One g.value_type) Empty)) (slice_get c.globals x)
variable_effect c i = accessed c.has_memory (access_of i) (numeric_effect i)

abbrev pub applied : Option Effect → Stack → Option Stack
applied o s = option_and_then (λ e. moved (taken e.takes) (results_of e.gives) s) o

-- ---- all plain instructions

abbrev pub are_same : List ValueType → List ValueType → Bool
are_same [] [] = true
are_same [] (u ∷ us) = false
are_same (t ∷ ts) [] = false
are_same (t ∷ ts) (u ∷ us) = is_same t u && are_same ts us

-- a label that keeps these types
abbrev pub keeps : List ValueType → Option (List ValueType) → Bool
keeps kept None = false
keeps kept (Some ts) = are_same ts kept

abbrev pub all_keep : Labels → List ValueType → List ℕ → Bool
all_keep ls kept table = list_all (λ l. keeps kept (slice_get ls l)) table

abbrev pub called : FuncType → Stack → Option Stack
called f s = moved (reverse f.params) f.results s

abbrev pub called_indirect : FuncType → Stack → Option Stack
called_indirect f s = option_and_then (called f) (pop I32 s)

-- where all labels keep the same, what they keep
abbrev pub table_label : Labels → List ℕ → ℕ → Option (List ValueType)
table_label ls table default = option_and_then (λ kept. if_true (all_keep ls kept table) kept) (slice_get ls default)

unfoldable pub after : Context → Labels → Instruction → Stack → Option Stack
after c ls op.Unreachable s = Some anything
after c ls (op.Br l) s = option_and_then (λ kept. left kept s) (slice_get ls l)
after c ls (op.BrIf l) s = option_and_then (λ kept. moved (I32 ∷ kept) kept s) (slice_get ls l)
after c ls (op.BrTable table) s = option_and_then (λ kept. left (I32 ∷ kept) s) (table_label ls table.0 table.1)
after c ls op.Return s = left c.returns s
after c ls (op.Call x) s = option_and_then (λ f. called f s) (slice_get c.functions x)
after c ls (op.CallIndirect x) s = option_and_then (λ f. called_indirect f s) (when c.has_table (slice_get c.types x))
after c ls op.Drop s = dropped s
after c ls op.Select s = selected s
after c ls i s = applied (variable_effect c i) s
