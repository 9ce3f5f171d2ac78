-- The index spaces of a module (section 2.5.1), the imported ones first, and the locals of a body.
use Rattle.std.specs.Prelude.{ℕ, List, ◌++◌, Option, Some, None, map, replicate}
use Rattle.std.specs.List.{flat_map, filter_map}
use Rattle.wasm_syntax.specs.declared.instruction.ValueType.{ValueType}
use Rattle.wasm_syntax.specs.declared.module.Limits.{Limits}
use Rattle.wasm_syntax.specs.declared.module.GlobalType.{GlobalType}
use Rattle.wasm_syntax.specs.declared.module.ImportKind.{ImportKind}
use Rattle.wasm_syntax.specs.declared.module.ImportKind.TheVariants as imported
use Rattle.wasm_syntax.specs.declared.module.Import.{Import}
use Rattle.wasm_syntax.specs.declared.module.Locals.{Locals}
use Rattle.wasm_syntax.specs.declared.module.Module.{Module}

-- of the imports, those of one kind
abbrev pub imported_function : ImportKind → Option ℕ
imported_function (imported.Function x) = Some x
imported_function k = None

abbrev pub imported_table : ImportKind → Option Limits
imported_table (imported.Table l) = Some l
imported_table k = None

abbrev pub imported_memory : ImportKind → Option Limits
imported_memory (imported.Memory l) = Some l
imported_memory k = None

abbrev pub imported_global : ImportKind → Option GlobalType
imported_global (imported.Global g) = Some g
imported_global k = None

abbrev pub kinds_of : List Import → List ImportKind
kinds_of is = map (λ i. i.kind) is

-- all of one kind, the imported ones first
abbrev pub functions_of : Module → List ℕ
functions_of m = filter_map imported_function (kinds_of m.imports) ++ m.functions

abbrev pub tables_of : Module → List Limits
tables_of m = filter_map imported_table (kinds_of m.imports) ++ m.tables

abbrev pub memories_of : Module → List Limits
memories_of m = filter_map imported_memory (kinds_of m.imports) ++ m.memories

abbrev pub globals_of : Module → List GlobalType
globals_of m = filter_map imported_global (kinds_of m.imports) ++ map (λ g. g.global_type) m.globals

-- the locals of a body, group by group
abbrev pub local_types : List Locals → List ValueType
local_types ls = flat_map (λ l. replicate l.count l.value_type) ls
