-- The rules of a module (section 3.4), as they are tested. They say what the clauses of `IsValid` say but for the
-- bodies, in groups as the functions of `src/validating.rt` test them.
use Rattle.std.specs.Prelude.{◌≡◌, ◌<◌, ◌≤◌, ◌^◌, List, [], length, map, All, Some, false, slice_get, IfSome}
use Rattle.std.specs.List.{filter_map}
use Rattle.wasm_syntax.specs.declared.instruction.ValueType.{ValueType}
use Rattle.wasm_syntax.specs.declared.instruction.ValueType.TheVariants.{I32, I64, F32, F64}
use Rattle.wasm_syntax.specs.declared.instruction.Instruction.{Instruction}
use Rattle.wasm_syntax.specs.declared.instruction.Instruction.TheVariants as op
use Rattle.wasm_syntax.specs.declared.module.GlobalType.{GlobalType}
use Rattle.wasm_syntax.specs.declared.module.ExportKind.{ExportKind}
use Rattle.wasm_syntax.specs.declared.module.ExportKind.TheVariants as exported
use Rattle.wasm_syntax.specs.declared.module.ElementSegment.{ElementSegment}
use Rattle.wasm_syntax.specs.declared.module.DataSegment.{DataSegment}
use Rattle.wasm_syntax.specs.declared.module.Module.{Module}
use Rattle.wasm_valid.specs.declared.module_rules.Counts.{Counts}
use Rattle.wasm_valid.specs.Typing.{Context}
use Rattle.wasm_valid.specs.Spaces.{functions_of, tables_of, memories_of, globals_of, imported_global, kinds_of}
use Rattle.wasm_valid.specs.Validity.{LimitsFit, AreApart, IsConstant}

-- a constant of this type, or that of one of these globals
abbrev pub IsConstantInstruction : List GlobalType → ValueType → Instruction → Type 0
IsConstantInstruction gs t (op.I32Const n) = t ≡ I32
IsConstantInstruction gs t (op.I64Const n) = t ≡ I64
IsConstantInstruction gs t (op.F32Const n) = t ≡ F32
IsConstantInstruction gs t (op.F64Const n) = t ≡ F64
IsConstantInstruction gs t (op.GlobalGet x) = slice_get gs x ≡ Some (record { value_type = t; mutable = false })
IsConstantInstruction gs t i = ⊥

-- at most one result a type, and a type for each function
pub record TypesFit (m : Module) : Type 0 where
  pub one_result : All (λ f. length f.results ≤ 1) m.types
  pub functions : All (λ x. x < length m.types) (functions_of m)

-- tables and memories
pub record LimitsHold (m : Module) : Type 0 where
  pub one_table : length (tables_of m) ≤ 1
  pub one_memory : length (memories_of m) ≤ 1
  pub tables : All (LimitsFit (2 ^ 32)) (tables_of m)
  pub memories : All (LimitsFit 65536) (memories_of m)

abbrev pub GlobalsHold : Module → Type 0
GlobalsHold m = All (λ g. IsConstant (filter_map imported_global (kinds_of m.imports)) g.global_type.value_type g.init) m.globals

-- what is exported is among this many
abbrev pub IsWithin : Counts → ExportKind → Type 0
IsWithin n (exported.Function x) = x < n.functions
IsWithin n (exported.Table x) = x < n.tables
IsWithin n (exported.Memory x) = x < n.memories
IsWithin n (exported.Global x) = x < n.globals

pub record ElementsHold (gs : List GlobalType) (n : Counts) (e : ElementSegment) : Type 0 where
  pub table : e.table < n.tables
  pub offset : IsConstant gs I32 e.offset
  pub functions : All (λ x. x < n.functions) e.functions

pub record DataHolds (gs : List GlobalType) (n : Counts) (d : DataSegment) : Type 0 where
  pub memory : d.memory < n.memories
  pub offset : IsConstant gs I32 d.offset

-- how many there are in a module
abbrev pub counts_of : Module → Counts
counts_of m = record { functions = length (functions_of m); tables = length (tables_of m); memories = length (memories_of m); globals = length (globals_of m) }

-- exports and segments
pub record ListsFit (m : Module) : Type 0 where
  pub exports : All (λ e. IsWithin (counts_of m) e.kind) m.exports
  pub names_apart : AreApart (map (λ e. e.name) m.exports)
  pub element_segments : All (ElementsHold (globals_of m) (counts_of m)) m.element_segments
  pub data_segments : All (DataHolds (globals_of m) (counts_of m)) m.data_segments

abbrev pub StartFits : Context → Module → Type 0
StartFits c m = IfSome m.start (λ x. slice_get c.functions x ≡ Some (record { params = []; results = [] }))
