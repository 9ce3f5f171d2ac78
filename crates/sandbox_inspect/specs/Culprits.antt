-- What of a module is to blame where it is refused: the function that a fault lies in, or the first import that nothing answers.
use Rattle.std.specs.Prelude.{ℕ, Bool, true, false, not, find, List, [], ◌∷◌, ◌++◌, Option, Some, None, slice_get, codes, decimal}
use Rattle.std.specs.List.{concat}
use Rattle.std.specs.Option.{option_map_or}
use Rattle.wasm_syntax.specs.declared.module.FuncType.{FuncType}
use Rattle.wasm_syntax.specs.declared.module.ImportKind.{ImportKind}
use Rattle.wasm_syntax.specs.declared.module.ImportKind.TheVariants as imported
use Rattle.wasm_syntax.specs.declared.module.Import.{Import}
use Rattle.wasm_store.specs.Instantiation.{LinksOf}
use Rattle.sandbox_inspect.specs.Words.{SurveyText, name_text}
use Rattle.sandbox_inspect.specs.Places.{function_name}

abbrev pub behind_a_blank : Option (List ℕ) → SurveyText
behind_a_blank (Some name) = codes " " ++ name_text name
behind_a_blank None = []

-- `function 31 fmt_fp`
abbrev pub function_text : List ℕ → ℕ → SurveyText
function_text bytes f = (codes "function " ++ decimal f) ++ behind_a_blank (function_name bytes f)

-- the host links it: it is a function, and there is such a call of its type
abbrev pub is_linked : LinksOf → List FuncType → Import → ImportKind → Bool
is_linked links types i (imported.Function x) = option_map_or (λ t. option_map_or (λ call. true) (links i.module_name i.name t) false) (slice_get types x) false
is_linked links types i other = false

abbrev pub refused_import : LinksOf → List FuncType → List Import → Option Import
refused_import links types imports = find (λ i. not (is_linked links types i i.kind)) imports

-- `import env resize`
abbrev pub import_name_text : Import → SurveyText
import_name_text i = concat (codes "import " ∷ name_text i.module_name ∷ codes " " ∷ name_text i.name ∷ [])
