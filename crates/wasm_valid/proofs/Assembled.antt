-- The rules as they are tested are those of a valid module.
use Rattle.std.proofs.Common.{◌≡◌, ℕ, ◌<◌, ◌≤◌, ◌^◌, List, [], ◌∷◌, length, Some, sym, ◌∙◌, refl, subst, inl, inr, Result, Ok, Err, arith}
use Rattle.std.specs.List.{AllByRecursion, filter_map, slice_get}
use Rattle.std.proofs.lemmas.List.Elements.{All-from_recursion, recursion_from_All}
use Rattle.std.proofs.lemmas.Option.{slice_get_within, slice_get_cases}
use Rattle.wasm_syntax.specs.declared.fault.LoadFault.{LoadFault}
use Rattle.wasm_syntax.specs.declared.instruction.ValueType.{ValueType}
use Rattle.wasm_syntax.specs.declared.instruction.Instruction.{Instruction}
use Rattle.wasm_syntax.specs.declared.instruction.Instruction.TheVariants as op
use Rattle.wasm_syntax.specs.declared.module.FuncType.{FuncType}
use Rattle.wasm_syntax.specs.declared.module.GlobalType.{GlobalType}
use Rattle.wasm_syntax.specs.declared.module.ExportKind.{ExportKind}
use Rattle.wasm_syntax.specs.declared.module.ExportKind.TheVariants as exported
use Rattle.wasm_syntax.specs.declared.module.ElementSegment.{ElementSegment}
use Rattle.wasm_syntax.specs.declared.module.DataSegment.{DataSegment}
use Rattle.wasm_syntax.specs.declared.module.Module.{Module}
use Rattle.wasm_valid.specs.declared.module_context.ModuleContext.{ModuleContext}
use Rattle.wasm_valid.specs.Typing.{Context}
use Rattle.wasm_valid.specs.Spaces.{imported_global, kinds_of, functions_of, tables_of, memories_of, globals_of}
use Rattle.wasm_valid.specs.Validity.{has_any, AreTypesAt, IsContext, IsConstant, FunctionsTyped, ExportFits, DataFits, LimitsFit, ElementsFit, IsValid}
use Rattle.wasm_valid.specs.internal.Answers.{Decides}
use Rattle.wasm_valid.specs.internal.Rules.{IsConstantInstruction, TypesFit, LimitsHold, GlobalsHold, ListsFit, StartFits, IsWithin, ElementsHold, DataHolds, counts_of}
use Rattle.wasm_valid.specs.internal.Contexts.{IsModuleContext, IsModuleContextOf}
use Rattle.wasm_valid.proofs.Refusals.{Refutes-some}

-- ---- constant expressions

-- an expression of one instruction
pub constant_of : (gs : List GlobalType) (t : ValueType) (i : Instruction) (code : List Instruction) → code ≡ i ∷ op.End ∷ [] → IsConstantInstruction gs t i → IsConstant gs t code
constant_of gs t (op.I32Const n) code e h = inl (n, h, e)
constant_of gs t (op.I64Const n) code e h = inr (inl (n, h, e))
constant_of gs t (op.F32Const n) code e h = inr (inr (inl (n, h, e)))
constant_of gs t (op.F64Const n) code e h = inr (inr (inr (inl (n, h, e))))
constant_of gs t (op.GlobalGet x) code e h = inr (inr (inr (inr (x, h, e))))
constant_of gs t i code e h = absurd h

pub of_constant : (gs : List GlobalType) (t : ValueType) (code : List Instruction) → IsConstant gs t code → (i : Instruction) × (code ≡ i ∷ op.End ∷ []) × IsConstantInstruction gs t i
of_constant gs t code (inl h) = (op.I32Const h.0, h.2, h.1)
of_constant gs t code (inr (inl h)) = (op.I64Const h.0, h.2, h.1)
of_constant gs t code (inr (inr (inl h))) = (op.F32Const h.0, h.2, h.1)
of_constant gs t code (inr (inr (inr (inl h)))) = (op.F64Const h.0, h.2, h.1)
of_constant gs t code (inr (inr (inr (inr h)))) = (op.GlobalGet h.0, h.2, h.1)

-- ---- exports and segments

export_fits : (m : Module) (k : ExportKind) → IsWithin (counts_of m) k → ExportFits m k
export_fits m (exported.Function x) w = w
export_fits m (exported.Table x) w = w
export_fits m (exported.Memory x) w = w
export_fits m (exported.Global x) w = w

export_within : (m : Module) (k : ExportKind) → ExportFits m k → IsWithin (counts_of m) k
export_within m (exported.Function x) w = w
export_within m (exported.Table x) w = w
export_within m (exported.Memory x) w = w
export_within m (exported.Global x) w = w

elements_fit : (m : Module) (e : ElementSegment) → ElementsHold (globals_of m) (counts_of m) e → ElementsFit m e
elements_fit m e h = (h.table, h.offset, recursion_from_All (λ x. x < length (functions_of m)) e.functions h.functions)

elements_hold : (m : Module) (e : ElementSegment) → ElementsFit m e → ElementsHold (globals_of m) (counts_of m) e
elements_hold m e h = record { table = h.0; offset = h.1; functions = All-from_recursion (λ x. x < length (functions_of m)) e.functions h.2 }

data_fits : (m : Module) (d : DataSegment) → DataHolds (globals_of m) (counts_of m) d → DataFits m d
data_fits m d h = (h.memory, h.offset)

data_holds : (m : Module) (d : DataSegment) → DataFits m d → DataHolds (globals_of m) (counts_of m) d
data_holds m d h = record { memory = h.0; offset = h.1 }

each : {X : Type 0} (P Q : X → Type 0) → ((x : X) → P x → Q x) → (xs : List X) → AllByRecursion P xs → AllByRecursion Q xs
each P Q f [] h = tt
each P Q f (x ∷ xs) h = (f x h.0, each P Q f xs h.1)

-- ---- the types of functions

found : (types : List FuncType) (x : ℕ) → x < length types → (f : FuncType) × (slice_get types x ≡ Some f)
found types x below =
    elim ((slice_get_cases types x).1) [
      | inl h ↦ (h.0, h.2)
      | inr h ↦ absurd (let past = h.0 in omega arith)
    ]

-- types that are there
types_at : (types : List FuncType) (xs : List ℕ) → AllByRecursion (λ x. x < length types) xs → (fs : List FuncType) × AreTypesAt types xs fs
types_at types [] h = ([], tt)
types_at types (x ∷ xs) h =
    let f = found types x h.0 in
    let rest = types_at types xs h.1 in
    (f.0 ∷ rest.0, (f.1, rest.1))

-- what names a type is in range
in_range : (types : List FuncType) (xs : List ℕ) (fs : List FuncType) → AreTypesAt types xs fs → AllByRecursion (λ x. x < length types) xs
in_range types [] fs h = tt
in_range types (x ∷ xs) [] h = absurd h
in_range types (x ∷ xs) (f ∷ fs) h = (slice_get_within types x f h.0, in_range types xs fs h.1)

-- what bodies of the module are typed in
context_of : (m : Module) → TypesFit m → (c : Context) × IsContext m c
context_of m h =
    let fs = types_at m.types (functions_of m) (recursion_from_All (λ x. x < length m.types) (functions_of m) h.functions) in (
      record { types = m.types; functions = fs.0; has_table = has_any (tables_of m); has_memory = has_any (memories_of m); globals = globals_of m; locals = []; returns = [] },
      record { types = refl; functions = fs.1; table = refl; memory = refl; globals = refl; locals = refl; returns = refl },
    )

-- the code keeps the context
space_of : (module_context : ModuleContext) (m : Module) (c : Context) → IsModuleContextOf module_context m → IsContext m c → IsModuleContext module_context c
space_of module_context m c is context = record {
  types = context.types ∙ sym is.types;
  functions = subst (λ (ts : List FuncType). AreTypesAt ts module_context.type_indices.items c.functions) (sym is.types) (subst (λ (xs : List ℕ). AreTypesAt m.types xs c.functions) (sym is.type_indices) context.functions);
  table = context.table ∙ sym is.table;
  memory = context.memory ∙ sym is.memory;
  globals = context.globals ∙ sym is.globals;
}

-- ---- the whole module

-- what depends on the context
pub record InContext (m : Module) (c : Context) : Type 0 where
  pub start : StartFits c m
  pub bodies : FunctionsTyped c m.types m.functions m.bodies

valid : (m : Module) → LimitsHold m → GlobalsHold m → TypesFit m → ListsFit m → (c : Context) → IsContext m c → InContext m c → IsValid m
valid m limits globals types lists c context inside = record {
  context = c;
  is_context = context;
  one_result = recursion_from_All (λ f. length f.results ≤ 1) m.types types.one_result;
  functions = inside.bodies;
  one_table = limits.one_table;
  one_memory = limits.one_memory;
  table_limits = recursion_from_All (LimitsFit (2 ^ 32)) (tables_of m) limits.tables;
  memory_limits = recursion_from_All (LimitsFit 65536) (memories_of m) limits.memories;
  globals = recursion_from_All (λ g. IsConstant (filter_map imported_global (kinds_of m.imports)) g.global_type.value_type g.init) m.globals globals;
  exports = each (λ e. IsWithin (counts_of m) e.kind) (λ e. ExportFits m e.kind) (λ e. export_fits m e.kind) m.exports (recursion_from_All (λ e. IsWithin (counts_of m) e.kind) m.exports lists.exports);
  names_apart = lists.names_apart;
  start = inside.start;
  element_segments = each (ElementsHold (globals_of m) (counts_of m)) (ElementsFit m) (elements_fit m) m.element_segments (recursion_from_All (ElementsHold (globals_of m) (counts_of m)) m.element_segments lists.element_segments);
  data_segments = each (DataHolds (globals_of m) (counts_of m)) (DataFits m) (data_fits m) m.data_segments (recursion_from_All (DataHolds (globals_of m) (counts_of m)) m.data_segments lists.data_segments);
}

-- ---- and back

pub types_of : (m : Module) → IsValid m → TypesFit m
types_of m v = record {
  one_result = All-from_recursion (λ f. length f.results ≤ 1) m.types v.one_result;
  functions = All-from_recursion (λ x. x < length m.types) (functions_of m) (in_range m.types (functions_of m) v.context.functions v.is_context.functions);
}

pub limits_of : (m : Module) → IsValid m → LimitsHold m
limits_of m v = record {
  one_table = v.one_table;
  one_memory = v.one_memory;
  tables = All-from_recursion (LimitsFit (2 ^ 32)) (tables_of m) v.table_limits;
  memories = All-from_recursion (LimitsFit 65536) (memories_of m) v.memory_limits;
}

pub globals_hold : (m : Module) → IsValid m → GlobalsHold m
globals_hold m v = All-from_recursion (λ g. IsConstant (filter_map imported_global (kinds_of m.imports)) g.global_type.value_type g.init) m.globals v.globals

pub lists_of : (m : Module) → IsValid m → ListsFit m
lists_of m v = record {
  exports = All-from_recursion (λ e. IsWithin (counts_of m) e.kind) m.exports (each (λ e. ExportFits m e.kind) (λ e. IsWithin (counts_of m) e.kind) (λ e. export_within m e.kind) m.exports v.exports);
  names_apart = v.names_apart;
  element_segments = All-from_recursion (ElementsHold (globals_of m) (counts_of m)) m.element_segments (each (ElementsFit m) (ElementsHold (globals_of m) (counts_of m)) (elements_hold m) m.element_segments v.element_segments);
  data_segments = All-from_recursion (DataHolds (globals_of m) (counts_of m)) m.data_segments (each (DataFits m) (DataHolds (globals_of m) (counts_of m)) (data_holds m) m.data_segments v.data_segments);
}

-- ---- what is left to be settled

-- a context with the module's parts
abbrev Given : ModuleContext → Type 0
Given module_context = (c : Context) × IsModuleContext module_context c

-- a valid module has its start and its bodies in its context
abbrev in_valid : (m : Module) (module_context : ModuleContext) → IsModuleContextOf module_context m → (P : Context → Type 0) → ((v : IsValid m) → P v.context) → IsValid m → (g : Given module_context) × P g.0
in_valid m module_context is P f v = ((v.context, space_of module_context m v.context is v.is_context), f v)

-- the start function is refused
pub start_settled : (m : Module) (module_context : ModuleContext) (e : LoadFault) → TypesFit m → IsModuleContextOf module_context m → ((c : Context) → IsModuleContext module_context c → Decides {T = Unit {0}} (Err e) (StartFits c m)) → Decides {T = Unit {0}} (Err e) (IsValid m)
start_settled m module_context e types is start =
    let c = context_of m types in
    Refutes-some e {A = Given module_context} (λ g. StartFits g.0 m) (IsValid m) (c.0, space_of module_context m c.0 is c.1) (λ g. start g.0 g.1) (in_valid m module_context is (λ k. StartFits k m) (λ v. v.start))

-- what is left are the bodies
pub settled : (m : Module) (module_context : ModuleContext) (r : Result (Unit {0}) LoadFault) → LimitsHold m → GlobalsHold m → TypesFit m → ListsFit m → IsModuleContextOf module_context m → ((c : Context) → IsModuleContext module_context c → StartFits c m) → ((c : Context) → IsModuleContext module_context c → Decides r (FunctionsTyped c m.types m.functions m.bodies)) → Decides r (IsValid m)
settled m module_context (Ok u) limits globals types lists is start bodies =
    let c = context_of m types in
    let at = space_of module_context m c.0 is c.1 in
    valid m limits globals types lists c.0 c.1 (record { start = start c.0 at; bodies = bodies c.0 at })
settled m module_context (Err e) limits globals types lists is start bodies =
    let c = context_of m types in
    Refutes-some e {A = Given module_context} (λ g. FunctionsTyped g.0 m.types m.functions m.bodies) (IsValid m) (c.0, space_of module_context m c.0 is c.1) (λ g. bodies g.0 g.1) (in_valid m module_context is (λ k. FunctionsTyped k m.types m.functions m.bodies) (λ v. v.functions))
