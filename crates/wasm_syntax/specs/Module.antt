-- The bytes of a module (section 5.5.15), with the limits of the profile. `SpellsWith` is the whole grammar in one
-- relation, and `Spells` is it without floats: `decode` answers with a module that the bytes spell, or with a fault, and
-- then (but for memory) they spell none.
use Rattle.std.specs.Prelude.{◌≡◌, ℕ, ◌+◌, ◌≤◌, List, [], ◌∷◌, ◌++◌, length, Option, Some, None, unwrap_or, slice_get, sum_by, IfSome}
use Rattle.wasm_syntax.specs.declared.profile.Profile.{Profile}
use Rattle.wasm_syntax.specs.declared.profile.Profile.TheVariants.{Integers}
use Rattle.wasm_syntax.specs.declared.module.FuncType.{FuncType}
use Rattle.wasm_syntax.specs.declared.module.Limits.{Limits}
use Rattle.wasm_syntax.specs.declared.module.Import.{Import}
use Rattle.wasm_syntax.specs.declared.module.Export.{Export}
use Rattle.wasm_syntax.specs.declared.module.GlobalEntry.{GlobalEntry}
use Rattle.wasm_syntax.specs.declared.module.ElementSegment.{ElementSegment}
use Rattle.wasm_syntax.specs.declared.module.Locals.{Locals}
use Rattle.wasm_syntax.specs.declared.module.Body.{Body}
use Rattle.wasm_syntax.specs.declared.module.DataSegment.{DataSegment}
use Rattle.wasm_syntax.specs.declared.module.Module.{Module}
use Rattle.wasm_syntax.specs.Grammar.{U32, Vector, Sized}
use Rattle.wasm_syntax.specs.Types.{SpellsFuncType, SpellsLimits, SpellsTable}
use Rattle.wasm_syntax.specs.Sections.{Customs, Section, SpellsImport, SpellsGlobal, SpellsExport, SpellsElements, BodyContent, SpellsData}

-- what the sections hold, where they are there
pub record Sections : Type 0 where
  pub types : Option (List FuncType)
  pub imports : Option (List Import)
  pub functions : Option (List ℕ)
  pub tables : Option (List Limits)
  pub memories : Option (List Limits)
  pub globals : Option (List GlobalEntry)
  pub exports : Option (List Export)
  pub start : Option ℕ
  pub element_segments : Option (List ElementSegment)
  pub data_count : Option ℕ
  pub bodies : Option (List Body)
  pub data_segments : Option (List DataSegment)

-- the sections in their order, custom sections before, between and after them
pub record SpellsSections (p : Profile) (text : List ℕ) (s : Sections) : Type 0 where
  pub customs : List ℕ
  pub types : List ℕ
  pub imports : List ℕ
  pub functions : List ℕ
  pub tables : List ℕ
  pub memories : List ℕ
  pub globals : List ℕ
  pub exports : List ℕ
  pub start : List ℕ
  pub element_segments : List ℕ
  pub data_count : List ℕ
  pub bodies : List ℕ
  pub data_segments : List ℕ
  pub customs_are : Customs customs
  pub types_are : Section 1 (Vector (SpellsFuncType p)) types s.types
  pub imports_are : Section 2 (Vector (SpellsImport p)) imports s.imports
  pub functions_are : Section 3 (Vector U32) functions s.functions
  pub tables_are : Section 4 (Vector SpellsTable) tables s.tables
  pub memories_are : Section 5 (Vector SpellsLimits) memories s.memories
  pub globals_are : Section 6 (Vector (SpellsGlobal p)) globals s.globals
  pub exports_are : Section 7 (Vector SpellsExport) exports s.exports
  pub start_is : Section 8 U32 start s.start
  pub element_segments_are : Section 9 (Vector (SpellsElements p)) element_segments s.element_segments
  pub data_count_is : Section 12 U32 data_count s.data_count
  pub bodies_are : Section 10 (Vector (Sized (BodyContent p))) bodies s.bodies
  pub data_segments_are : Section 11 (Vector (SpellsData p)) data_segments s.data_segments
  pub text_is : text ≡ customs ++ (types ++ (imports ++ (functions ++ (tables ++ (memories ++ (globals ++ (exports ++ (start ++ (element_segments ++ (data_count ++ (bodies ++ data_segments)))))))))))

-- the module of these sections; one that is absent is empty
unfoldable pub module_of : Sections → Module
module_of s = record {
  types = unwrap_or s.types [];
  imports = unwrap_or s.imports [];
  functions = unwrap_or s.functions [];
  tables = unwrap_or s.tables [];
  memories = unwrap_or s.memories [];
  globals = unwrap_or s.globals [];
  exports = unwrap_or s.exports [];
  start = s.start;
  element_segments = unwrap_or s.element_segments [];
  bodies = unwrap_or s.bodies [];
  data_segments = unwrap_or s.data_segments [];
}

-- the parameters of a type; a type that isn't there has none
abbrev pub param_count : Option FuncType → ℕ
param_count None = 0
param_count (Some t) = length t.params

abbrev pub local_count : List Locals → ℕ
local_count ls = sum_by (λ l. l.count) ls

-- each function has at most 50,000 parameters and locals
abbrev pub FitsProfile : List FuncType → List ℕ → List Body → Type 0
FitsProfile types [] bodies = Unit {0}
FitsProfile types (f ∷ fs) [] = Unit {0}
FitsProfile types (f ∷ fs) (b ∷ bs) = (param_count (slice_get types f) + local_count b.locals ≤ 50000) × FitsProfile types fs bs

-- what holds beside the grammar: the counts agree, and the limits hold
pub record CountsAgree (s : Sections) : Type 0 where
  pub one_body_each : length (unwrap_or s.functions []) ≡ length (unwrap_or s.bodies [])
  pub data_counted : IfSome s.data_count (λ n. n ≡ length (unwrap_or s.data_segments []))
  pub profile : FitsProfile (unwrap_or s.types []) (unwrap_or s.functions []) (unwrap_or s.bodies [])

-- the bytes are a preamble and these sections
pub record SpellsParts (p : Profile) (bytes : List ℕ) (s : Sections) : Type 0 where
  pub text : List ℕ
  pub short : length bytes ≤ 67108864
  pub preamble : bytes ≡ 0x00 ∷ 0x61 ∷ 0x73 ∷ 0x6D ∷ 0x01 ∷ 0x00 ∷ 0x00 ∷ 0x00 ∷ text
  pub sections : SpellsSections p text s
  pub whole : CountsAgree s

-- the bytes spell the module, which holds no more than the profile takes
abbrev pub SpellsWith : Profile → List ℕ → Module → Type 0
SpellsWith p bytes m = (s : Sections) × SpellsParts p bytes s × (m ≡ module_of s)

-- the bytes spell the module, which holds no floats
abbrev pub Spells : List ℕ → Module → Type 0
Spells = SpellsWith Integers
