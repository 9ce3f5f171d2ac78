-- What a module without floats is: none of its types is f32 or f64, and none of its instructions takes or gives one.
use Rattle.std.specs.Prelude.{List}
use Rattle.std.specs.List.{AllByRecursion}
use Rattle.wasm_syntax.specs.declared.instruction.ValueType.{ValueType}
use Rattle.wasm_syntax.specs.declared.instruction.ValueType.TheVariants.{I32, I64, F32, F64}
use Rattle.wasm_syntax.specs.declared.instruction.BlockType.{BlockType}
use Rattle.wasm_syntax.specs.declared.instruction.BlockType.TheVariants.{Empty, Value}
use Rattle.wasm_syntax.specs.declared.instruction.Instruction.{Instruction}
use Rattle.wasm_syntax.specs.declared.instruction.Instruction.TheVariants as op
use Rattle.wasm_syntax.specs.declared.module.FuncType.{FuncType}
use Rattle.wasm_syntax.specs.declared.module.ImportKind.{ImportKind}
use Rattle.wasm_syntax.specs.declared.module.ImportKind.TheVariants as imported
use Rattle.wasm_syntax.specs.declared.module.GlobalEntry.{GlobalEntry}
use Rattle.wasm_syntax.specs.declared.module.Body.{Body}
use Rattle.wasm_syntax.specs.declared.module.Module.{Module}
use Rattle.wasm_syntax.specs.Accesses.{load_access, store_access}

abbrev pub IsInteger : ValueType → Type 0
IsInteger I32 = Unit {0}
IsInteger I64 = Unit {0}
IsInteger F32 = ⊥
IsInteger F64 = ⊥

abbrev pub AreIntegers : List ValueType → Type 0
AreIntegers = AllByRecursion IsInteger

abbrev pub LeavesIntegers : BlockType → Type 0
LeavesIntegers Empty = Unit {0}
LeavesIntegers (Value t) = IsInteger t

-- an instruction that names no float
abbrev pub IsFloatless : Instruction → Type 0
IsFloatless (op.Block t) = LeavesIntegers t
IsFloatless (op.Loop t) = LeavesIntegers t
IsFloatless (op.If t) = LeavesIntegers t
IsFloatless (op.Load o m) = IsInteger (load_access o).value_type
IsFloatless (op.Store o m) = IsInteger (store_access o).value_type
IsFloatless (op.F32Const n) = ⊥
IsFloatless (op.F64Const n) = ⊥
IsFloatless (op.Float o) = ⊥
IsFloatless i = Unit {0}

abbrev pub AreFloatless : List Instruction → Type 0
AreFloatless = AllByRecursion IsFloatless

abbrev pub HasIntegers : FuncType → Type 0
HasIntegers f = AreIntegers f.params × AreIntegers f.results

abbrev pub ImportsIntegers : ImportKind → Type 0
ImportsIntegers (imported.Function x) = Unit {0}
ImportsIntegers (imported.Table l) = Unit {0}
ImportsIntegers (imported.Memory l) = Unit {0}
ImportsIntegers (imported.Global g) = IsInteger g.value_type

abbrev pub IsFloatlessGlobal : GlobalEntry → Type 0
IsFloatlessGlobal g = IsInteger g.global_type.value_type × AreFloatless g.init

abbrev pub IsFloatlessBody : Body → Type 0
IsFloatlessBody b = AllByRecursion (λ l. IsInteger l.value_type) b.locals × AreFloatless b.code

pub record HasNoFloat (m : Module) : Type 0 where
  pub types : AllByRecursion HasIntegers m.types
  pub imports : AllByRecursion (λ i. ImportsIntegers i.kind) m.imports
  pub globals : AllByRecursion IsFloatlessGlobal m.globals
  pub element_segments : AllByRecursion (λ e. AreFloatless e.offset) m.element_segments
  pub bodies : AllByRecursion IsFloatlessBody m.bodies
  pub data_segments : AllByRecursion (λ d. AreFloatless d.offset) m.data_segments
