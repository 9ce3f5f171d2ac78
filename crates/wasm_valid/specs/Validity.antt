-- Which modules are valid (section 3.4), cut to the profile. `IsValid` is the whole; the invariant of `Valid` carries
-- it, so no later crate asks again.
use Rattle.std.specs.Prelude.{◌≡◌, ◌≢◌, ℕ, ◌<◌, ◌≤◌, ◌^◌, ◌⊎◌, List, [], ◌∷◌, ◌++◌, Some, Bool, true, false, slice_get, length, map, IfSome}
use Rattle.std.specs.List.{AllByRecursion, filter_map}
use Rattle.wasm_syntax.specs.declared.instruction.ValueType.{ValueType}
use Rattle.wasm_syntax.specs.declared.instruction.ValueType.TheVariants.{I32, I64, F32, F64}
use Rattle.wasm_syntax.specs.declared.instruction.Instruction.{Instruction}
use Rattle.wasm_syntax.specs.declared.instruction.Instruction.TheVariants as op
use Rattle.wasm_syntax.specs.declared.module.FuncType.{FuncType}
use Rattle.wasm_syntax.specs.declared.module.Limits.{Limits}
use Rattle.wasm_syntax.specs.declared.module.GlobalType.{GlobalType}
use Rattle.wasm_syntax.specs.declared.module.ExportKind.{ExportKind}
use Rattle.wasm_syntax.specs.declared.module.ExportKind.TheVariants as exported
use Rattle.wasm_syntax.specs.declared.module.ElementSegment.{ElementSegment}
use Rattle.wasm_syntax.specs.declared.module.Body.{Body}
use Rattle.wasm_syntax.specs.declared.module.DataSegment.{DataSegment}
use Rattle.wasm_syntax.specs.declared.module.Module.{Module}
use Rattle.wasm_syntax.specs.Nested.{Instructions, Nests}
use Rattle.wasm_valid.specs.Typing.{Context, Typed}
pub use Rattle.wasm_valid.specs.Spaces.{imported_function, imported_table, imported_memory, imported_global, kinds_of, functions_of, tables_of, memories_of, globals_of, local_types}

-- ---- what the module's parts are typed in

-- whether there is one
abbrev pub has_any : {A : Type 0} → List A → Bool
has_any [] = false
has_any (x ∷ xs) = true

-- each type index names its type
abbrev pub AreTypesAt : List FuncType → List ℕ → List FuncType → Type 0
AreTypesAt types [] [] = Unit {0}
AreTypesAt types [] (f ∷ fs) = ⊥
AreTypesAt types (x ∷ xs) [] = ⊥
AreTypesAt types (x ∷ xs) (f ∷ fs) = (slice_get types x ≡ Some f) × AreTypesAt types xs fs

pub record IsContext (m : Module) (c : Context) : Type 0 where
  pub types : c.types ≡ m.types
  pub functions : AreTypesAt m.types (functions_of m) c.functions
  pub table : c.has_table ≡ has_any (tables_of m)
  pub memory : c.has_memory ≡ has_any (memories_of m)
  pub globals : c.globals ≡ globals_of m
  pub locals : c.locals ≡ []
  pub returns : c.returns ≡ []

-- ---- the rules

-- a function (section 3.4.1): its body's instructions nest, and have the type of the function's results
abbrev pub FunctionTyped : Context → FuncType → Body → Type 0
FunctionTyped c f b =
    (code : Instructions) × Nests b.code code
    × Typed (record c { locals = f.params ++ local_types b.locals; returns = f.results }) (f.results ∷ []) code [] f.results

abbrev pub FunctionsTyped : Context → List FuncType → List ℕ → List Body → Type 0
FunctionsTyped c types [] [] = Unit {0}
FunctionsTyped c types [] (b ∷ bs) = ⊥
FunctionsTyped c types (x ∷ xs) [] = ⊥
FunctionsTyped c types (x ∷ xs) (b ∷ bs) =
    ((f : FuncType) × (slice_get types x ≡ Some f) × FunctionTyped c f b) × FunctionsTyped c types xs bs

-- a constant expression (section 3.3.7.2): one constant, or global.get of a constant global among these
abbrev pub IsConstant : List GlobalType → ValueType → List Instruction → Type 0
IsConstant gs t code =
    ((n : ℕ) × (t ≡ I32) × (code ≡ op.I32Const n ∷ op.End ∷ []))
    ⊎ ((n : ℕ) × (t ≡ I64) × (code ≡ op.I64Const n ∷ op.End ∷ []))
    ⊎ ((n : ℕ) × (t ≡ F32) × (code ≡ op.F32Const n ∷ op.End ∷ []))
    ⊎ ((n : ℕ) × (t ≡ F64) × (code ≡ op.F64Const n ∷ op.End ∷ []))
    ⊎ ((x : ℕ) × (slice_get gs x ≡ Some (record { value_type = t; mutable = false })) × (code ≡ op.GlobalGet x ∷ op.End ∷ []))

-- limits within a range (section 3.2.1)
abbrev pub LimitsFit : ℕ → Limits → Type 0
LimitsFit most l = (l.min ≤ most) × IfSome l.max (λ n. (l.min ≤ n) × (n ≤ most))

-- no two names agree
abbrev pub AreApart : List (List ℕ) → Type 0
AreApart [] = Unit {0}
AreApart (n ∷ ns) = AllByRecursion (λ x. x ≢ n) ns × AreApart ns

-- section 3.4.8
abbrev pub ExportFits : Module → ExportKind → Type 0
ExportFits m (exported.Function x) = x < length (functions_of m)
ExportFits m (exported.Table x) = x < length (tables_of m)
ExportFits m (exported.Memory x) = x < length (memories_of m)
ExportFits m (exported.Global x) = x < length (globals_of m)

-- sections 3.4.5 and 3.4.6
abbrev pub ElementsFit : Module → ElementSegment → Type 0
ElementsFit m e =
    (e.table < length (tables_of m)) × IsConstant (globals_of m) I32 e.offset × AllByRecursion (λ x. x < length (functions_of m)) e.functions

abbrev pub DataFits : Module → DataSegment → Type 0
DataFits m d = (d.memory < length (memories_of m)) × IsConstant (globals_of m) I32 d.offset

-- a valid module (section 3.4.10)
pub record IsValid (m : Module) : Type 0 where
  pub context : Context
  pub is_context : IsContext m context
  pub one_result : AllByRecursion (λ f. length f.results ≤ 1) m.types
  pub functions : FunctionsTyped context m.types m.functions m.bodies
  pub one_table : length (tables_of m) ≤ 1
  pub one_memory : length (memories_of m) ≤ 1
  pub table_limits : AllByRecursion (LimitsFit (2 ^ 32)) (tables_of m)
  pub memory_limits : AllByRecursion (LimitsFit 65536) (memories_of m)
  -- a global's first value may come from no global but an imported one
  pub globals : AllByRecursion (λ g. IsConstant (filter_map imported_global (kinds_of m.imports)) g.global_type.value_type g.init) m.globals
  pub exports : AllByRecursion (λ e. ExportFits m e.kind) m.exports
  pub names_apart : AreApart (map (λ e. e.name) m.exports)
  pub start : IfSome m.start (λ x. slice_get context.functions x ≡ Some (record { params = []; results = [] }))
  pub element_segments : AllByRecursion (ElementsFit m) m.element_segments
  pub data_segments : AllByRecursion (DataFits m) m.data_segments
