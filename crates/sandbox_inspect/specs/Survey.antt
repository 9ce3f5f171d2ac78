-- What is told of a valid module, as lines of a key and a value: that it loads, its imports, its exports and its own
-- parts. `survey_of` computes the whole text from the module and the calls that its imports are linked to, so that it
-- is fixed to the byte; all else here is a part of it.
use Rattle.std.specs.Prelude.{ℕ, ◌&&◌, Bool, true, false, List, [], ◌∷◌, ◌++◌, length, Option, Some, None, slice_get, codes, decimal, bytes_eq}
use Rattle.std.specs.List.{concat, flat_map, list_any}
use Rattle.std.specs.Option.{option_map_or}
use Rattle.wasm_syntax.specs.declared.module.FuncType.{FuncType}
use Rattle.wasm_syntax.specs.declared.module.Limits.{Limits}
use Rattle.wasm_syntax.specs.declared.module.ImportKind.{ImportKind}
use Rattle.wasm_syntax.specs.declared.module.ImportKind.TheVariants as imported
use Rattle.wasm_syntax.specs.declared.module.Import.{Import}
use Rattle.wasm_syntax.specs.declared.module.ExportKind.{ExportKind}
use Rattle.wasm_syntax.specs.declared.module.ExportKind.TheVariants as exported
use Rattle.wasm_syntax.specs.declared.module.Export.{Export}
use Rattle.wasm_syntax.specs.declared.module.Module.{Module}
use Rattle.wasm_valid.specs.Spaces.{functions_of}
use Rattle.wasm_store.specs.declared.call.HostCall.{HostCall}
use Rattle.wasm_store.specs.declared.call.HostCall.TheVariants as call
use Rattle.wasm_store.specs.Instantiation.{LinksOf}
use Rattle.sandbox_inspect.specs.Words.{SurveyText, name_text, number_or_none}

-- ---- imports

-- what a guest gets of a call: it is served, or answered with 52 (there is no such call)
abbrev pub call_text : HostCall → SurveyText
call_text call.Nosys = codes "answered with 52"
call_text other = codes "served"

abbrev pub link_text : Option HostCall → SurveyText
link_text None = codes "refused"
link_text (Some c) = call_text c

-- what becomes of an import: only functions are linked
abbrev pub answer_text : LinksOf → List FuncType → Import → ImportKind → SurveyText
answer_text links types i (imported.Function x) = option_map_or (λ t. link_text (links i.module_name i.name t)) (slice_get types x) (codes "refused")
answer_text links types i other = codes "refused"

abbrev pub import_text : LinksOf → List FuncType → Import → SurveyText
import_text links types i = concat (codes "import:" ∷ name_text i.module_name ∷ codes " " ∷ name_text i.name ∷ codes " " ∷ answer_text links types i i.kind ∷ codes "\n" ∷ [])

-- ---- exports

abbrev pub kind_text : ExportKind → SurveyText
kind_text (exported.Function x) = codes "function"
kind_text (exported.Table x) = codes "table"
kind_text (exported.Memory x) = codes "memory"
kind_text (exported.Global x) = codes "global"

abbrev pub export_text : Export → SurveyText
export_text e = concat (codes "export:" ∷ name_text e.name ∷ codes " " ∷ kind_text e.kind ∷ codes "\n" ∷ [])

-- ---- its own memory, table, functions and globals

-- the first numbers: how many there are at the beginning, and where a maximum is declared, how many at most
abbrev pub limits_text : List Limits → SurveyText
limits_text [] = codes "none"
limits_text (l ∷ ls) = option_map_or (λ max. decimal l.min ++ (codes " " ++ decimal max)) l.max (decimal l.min)

abbrev pub is_empty : {X : Type 0} → List X → Bool
is_empty [] = true
is_empty (x ∷ xs) = false

-- the type [] -> []
abbrev pub is_bare : FuncType → Bool
is_bare t = is_empty t.params && is_empty t.results

-- the function of this index has that type, among functions by their types' indices
abbrev pub is_bare_at : List FuncType → List ℕ → ℕ → Bool
is_bare_at types functions x = option_map_or (λ i. option_map_or is_bare (slice_get types i) false) (slice_get functions x) false

-- a function `_start` of that type
abbrev pub is_start_of : List FuncType → List ℕ → List ℕ → ExportKind → Bool
is_start_of types functions name (exported.Function x) = bytes_eq name (codes "_start") && is_bare_at types functions x
is_start_of types functions name other = false

abbrev pub is_entry : List FuncType → List ℕ → Export → Bool
is_entry types functions e = is_start_of types functions e.name e.kind

-- one is exported, so that a run can begin
abbrev pub has_entry : Module → Bool
has_entry m = list_any (is_entry m.types (functions_of m)) m.exports

abbrev pub entry_text : Bool → SurveyText
entry_text true = codes "yes"
entry_text false = codes "no"

abbrev pub sizes_text : List Limits → List Limits → SurveyText
sizes_text memories tables = concat (codes "memory:" ∷ limits_text memories ∷ codes "\ntable:" ∷ limits_text tables ∷ codes "\n" ∷ [])

abbrev pub counts_text : ℕ → ℕ → Option ℕ → SurveyText → SurveyText
counts_text functions globals start entry = concat (codes "functions:" ∷ decimal functions ∷ codes "\nglobals:" ∷ decimal globals
    ∷ codes "\nstart:" ∷ number_or_none start ∷ codes "\nentry:" ∷ entry ∷ codes "\n" ∷ [])

abbrev pub parts_text : Module → SurveyText
parts_text m = sizes_text m.memories m.tables ++ counts_text (length m.functions) (length m.globals) m.start (entry_text (has_entry m))

-- the imports and the exports in the module's order, and then the rest
abbrev pub survey_of : LinksOf → Module → SurveyText
survey_of links m = codes "loads:yes\n" ++ (flat_map (import_text links m.types) m.imports ++ (flat_map export_text m.exports ++ parts_text m))
