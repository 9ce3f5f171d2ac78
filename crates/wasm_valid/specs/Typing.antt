-- Which instructions take which types from the stack, and leave which (section 3.3). The type on top comes first.
use Rattle.std.specs.Prelude.{◌≡◌, ◌^◌, ◌≤◌, List, [], ◌∷◌, ◌++◌, Some, Bool, true, slice_get, reverse}
use Rattle.std.specs.List.{AllByRecursion}
use Rattle.wasm_syntax.specs.declared.instruction.ValueType.{ValueType}
use Rattle.wasm_syntax.specs.declared.instruction.ValueType.TheVariants.{I32, I64, F32, F64}
use Rattle.wasm_syntax.specs.declared.instruction.IntegerType.{IntegerType}
use Rattle.wasm_syntax.specs.declared.instruction.IntegerType.TheVariants as int
use Rattle.wasm_syntax.specs.declared.instruction.BlockType.TheVariants.{Empty}
use Rattle.wasm_syntax.specs.declared.instruction.MemArg.{MemArg}
use Rattle.wasm_syntax.specs.declared.accesses.Access.{Access}
use Rattle.wasm_syntax.specs.ValueTypes.{integer}
use Rattle.wasm_syntax.specs.Accesses.{load_access, store_access}
use Rattle.wasm_syntax.specs.declared.instruction.UnaryOperator.{UnaryOperator}
use Rattle.wasm_syntax.specs.declared.instruction.UnaryOperator.TheVariants.{Extend32S}
use Rattle.wasm_syntax.specs.declared.instruction.Instruction.{Instruction}
use Rattle.wasm_syntax.specs.declared.instruction.Instruction.TheVariants as op
use Rattle.wasm_syntax.specs.declared.module.FuncType.{FuncType}
use Rattle.wasm_syntax.specs.declared.module.GlobalType.{GlobalType}
use Rattle.wasm_syntax.specs.Nested.{Instructions, done, plain, block, loop, if_then, if_else, invoke}
pub use Rattle.wasm_valid.specs.Arities.{results_of, arity, as_wide, float_takes, float_gives}

-- what instructions are typed in (section 3.1.1): functions and globals with the imported ones first
pub record Context : Type 0 where
  pub types : List FuncType
  pub functions : List FuncType
  pub has_table : Bool
  pub has_memory : Bool
  pub globals : List GlobalType
  pub locals : List ValueType
  -- what the function returns
  pub returns : List ValueType

-- the labels around, the innermost first, each by the types that a branch to it keeps
abbrev pub Labels : Type 0
Labels = List (List ValueType)

-- takes and leaves these types, above any others
abbrev pub Moves : List ValueType → List ValueType → List ValueType → List ValueType → Type 0
Moves takes gives a b = (t : List ValueType) × (a ≡ takes ++ t) × (b ≡ gives ++ t)

-- takes these types; what follows is typed over any stack
abbrev pub Leaves : List ValueType → List ValueType → Type 0
Leaves takes a = (t : List ValueType) × (a ≡ takes ++ t)

-- a load and a store (section 3.3.4): the alignment is not over the bytes of the number
abbrev pub Loads : Context → Access → MemArg → List ValueType → List ValueType → Type 0
Loads c n m a b = (c.has_memory ≡ true) × (2 ^ m.align ≤ 2 ^ n.width) × Moves (I32 ∷ []) (n.value_type ∷ []) a b

abbrev pub Stores : Context → Access → MemArg → List ValueType → List ValueType → Type 0
Stores c n m a b = (c.has_memory ≡ true) × (2 ^ m.align ≤ 2 ^ n.width) × Moves (n.value_type ∷ I32 ∷ []) [] a b

-- extend32_s is only of i64
abbrev pub IsOperator : IntegerType → UnaryOperator → Type 0
IsOperator int.I32 Extend32S = ⊥
IsOperator t o = Unit {0}

-- an instruction of type [a] -> [b] (sections 3.3.1 to 3.3.5)
abbrev pub OpTyped : Context → Labels → Instruction → List ValueType → List ValueType → Type 0
OpTyped c ls op.Unreachable a b = Unit {0}
OpTyped c ls op.Nop a b = Moves [] [] a b
OpTyped c ls (op.Block t) a b = ⊥
OpTyped c ls (op.Loop t) a b = ⊥
OpTyped c ls (op.If t) a b = ⊥
OpTyped c ls op.Else a b = ⊥
OpTyped c ls op.End a b = ⊥
OpTyped c ls (op.Br l) a b = (kept : List ValueType) × (slice_get ls l ≡ Some kept) × Leaves kept a
OpTyped c ls (op.BrIf l) a b = (kept : List ValueType) × (slice_get ls l ≡ Some kept) × Moves (I32 ∷ kept) kept a b
OpTyped c ls (op.BrTable table) a b =
    (kept : List ValueType) × AllByRecursion (λ l. slice_get ls l ≡ Some kept) table.0 × (slice_get ls table.1 ≡ Some kept) × Leaves (I32 ∷ kept) a
OpTyped c ls op.Return a b = Leaves c.returns a
OpTyped c ls (op.Call x) a b = (f : FuncType) × (slice_get c.functions x ≡ Some f) × Moves (reverse f.params) f.results a b
OpTyped c ls (op.CallIndirect x) a b =
    (f : FuncType) × (c.has_table ≡ true) × (slice_get c.types x ≡ Some f) × Moves (I32 ∷ reverse f.params) f.results a b
OpTyped c ls op.Drop a b = (t : ValueType) × Moves (t ∷ []) [] a b
OpTyped c ls op.Select a b = (t : ValueType) × Moves (I32 ∷ t ∷ t ∷ []) (t ∷ []) a b
OpTyped c ls (op.LocalGet x) a b = (t : ValueType) × (slice_get c.locals x ≡ Some t) × Moves [] (t ∷ []) a b
OpTyped c ls (op.LocalSet x) a b = (t : ValueType) × (slice_get c.locals x ≡ Some t) × Moves (t ∷ []) [] a b
OpTyped c ls (op.LocalTee x) a b = (t : ValueType) × (slice_get c.locals x ≡ Some t) × Moves (t ∷ []) (t ∷ []) a b
OpTyped c ls (op.GlobalGet x) a b = (g : GlobalType) × (slice_get c.globals x ≡ Some g) × Moves [] (g.value_type ∷ []) a b
OpTyped c ls (op.GlobalSet x) a b =
    (g : GlobalType) × (slice_get c.globals x ≡ Some g) × (g.mutable ≡ true) × Moves (g.value_type ∷ []) [] a b
OpTyped c ls (op.Load o m) a b = Loads c (load_access o) m a b
OpTyped c ls (op.Store o m) a b = Stores c (store_access o) m a b
OpTyped c ls op.MemorySize a b = (c.has_memory ≡ true) × Moves [] (I32 ∷ []) a b
OpTyped c ls op.MemoryGrow a b = (c.has_memory ≡ true) × Moves (I32 ∷ []) (I32 ∷ []) a b
OpTyped c ls op.MemoryCopy a b = (c.has_memory ≡ true) × Moves (I32 ∷ I32 ∷ I32 ∷ []) [] a b
OpTyped c ls op.MemoryFill a b = (c.has_memory ≡ true) × Moves (I32 ∷ I32 ∷ I32 ∷ []) [] a b
OpTyped c ls (op.I32Const n) a b = Moves [] (I32 ∷ []) a b
OpTyped c ls (op.I64Const n) a b = Moves [] (I64 ∷ []) a b
OpTyped c ls (op.Eqz t) a b = Moves (integer t ∷ []) (I32 ∷ []) a b
OpTyped c ls (op.Compare t o) a b = Moves (integer t ∷ integer t ∷ []) (I32 ∷ []) a b
OpTyped c ls (op.Unary t o) a b = IsOperator t o × Moves (integer t ∷ []) (integer t ∷ []) a b
OpTyped c ls (op.Binary t o) a b = Moves (integer t ∷ integer t ∷ []) (integer t ∷ []) a b
OpTyped c ls op.I32WrapI64 a b = Moves (I64 ∷ []) (I32 ∷ []) a b
OpTyped c ls op.I64ExtendI32S a b = Moves (I32 ∷ []) (I64 ∷ []) a b
OpTyped c ls op.I64ExtendI32U a b = Moves (I32 ∷ []) (I64 ∷ []) a b
OpTyped c ls (op.F32Const n) a b = Moves [] (F32 ∷ []) a b
OpTyped c ls (op.F64Const n) a b = Moves [] (F64 ∷ []) a b
OpTyped c ls (op.Float o) a b = Moves (float_takes o) (float_gives o ∷ []) a b

-- Instructions of type [a] -> [b] (sections 3.3.5 and 3.3.6): the first goes from a to some types, and the rest goes on
-- from there. Within a block only what the block itself pushed can be taken, and its end finds exactly its results.
abbrev pub Typed : Context → Labels → Instructions → List ValueType → List ValueType → Type 0
Typed c ls done a b = a ≡ b
Typed c ls (plain i rest) a b = (m : List ValueType) × OpTyped c ls i a m × Typed c ls rest m b
Typed c ls (block t body rest) a b =
    Typed c (results_of t ∷ ls) body [] (results_of t) × Typed c ls rest (results_of t ++ a) b
Typed c ls (loop t body rest) a b =
    Typed c ([] ∷ ls) body [] (results_of t) × Typed c ls rest (results_of t ++ a) b
Typed c ls (if_then t body rest) a b =
    (m : List ValueType) × (a ≡ I32 ∷ m) × (t ≡ Empty) × Typed c ([] ∷ ls) body [] [] × Typed c ls rest m b
Typed c ls (if_else t body other rest) a b =
    (m : List ValueType) × (a ≡ I32 ∷ m) × Typed c (results_of t ∷ ls) body [] (results_of t)
    × Typed c (results_of t ∷ ls) other [] (results_of t) × Typed c ls rest (results_of t ++ m) b
Typed c ls (invoke x rest) a b =
    (f : FuncType) × (slice_get c.functions x ≡ Some f) × (m : List ValueType) × Moves (reverse f.params) f.results a m × Typed c ls rest m b
