-- From a valid module to its first configuration (section 4.5.4), cut to the profile: no import but functions.
-- `Instantiates` says what success means, over the links of any host; `NotStarting` says why there is none.
use Rattle.std.specs.Prelude.{◌≡◌, ℕ, ◌+◌, ◌*◌, ◌≤◌, min, List, [], ◌∷◌, ◌++◌, length, replicate, Option, Some, None, unwrap_or, slice_get, codes, Contains}
use Rattle.std.specs.List.{AllByRecursion}
use Rattle.std.specs.Option.{option_to_list}
use Rattle.wasm_syntax.specs.declared.instruction.ValueType.TheVariants.{I32, I64, F32, F64}
use Rattle.wasm_syntax.specs.declared.instruction.Instruction.{Instruction}
use Rattle.wasm_syntax.specs.declared.instruction.Instruction.TheVariants as op
use Rattle.wasm_syntax.specs.declared.module.FuncType.{FuncType}
use Rattle.wasm_syntax.specs.declared.module.Limits.{Limits}
use Rattle.wasm_syntax.specs.declared.module.ImportKind.TheVariants as imports
use Rattle.wasm_syntax.specs.declared.module.Import.{Import}
use Rattle.wasm_syntax.specs.declared.module.ExportKind.TheVariants as exports
use Rattle.wasm_syntax.specs.declared.module.GlobalEntry.{GlobalEntry}
use Rattle.wasm_syntax.specs.declared.module.ElementSegment.{ElementSegment}
use Rattle.wasm_syntax.specs.declared.module.Body.{Body}
use Rattle.wasm_syntax.specs.declared.module.DataSegment.{DataSegment}
use Rattle.wasm_syntax.specs.declared.module.Module.{Module}
use Rattle.wasm_syntax.specs.Nested.{Instructions, Nests}
use Rattle.wasm_valid.specs.Spaces.{functions_of, local_types}
use Rattle.wasm_store.specs.declared.call.HostCall.{HostCall}
use Rattle.wasm_store.specs.Values.{Val, val, number_of}
use Rattle.wasm_store.specs.Instances.{Callee, imported, own, Instance, Store}
use Rattle.wasm_store.specs.Bytes.{written}
use Rattle.wasm_store.specs.Elements.{with_functions}

-- ---- functions

-- which call an import of this module name, name and type is
abbrev pub LinksOf : Type 0
LinksOf = List ℕ → List ℕ → FuncType → Option HostCall

-- an import and the host's call for it
pub record IsLinked (links : LinksOf) (types : List FuncType) (i : Import) (c : Callee) : Type 0 where
  pub index : ℕ
  pub func_type : FuncType
  pub call : HostCall
  pub kind : i.kind ≡ imports.Function index
  pub type_is : slice_get types index ≡ Some func_type
  pub links_to : links i.module_name i.name func_type ≡ Some call
  pub callee : c ≡ imported func_type call

abbrev pub AreLinked : LinksOf → List FuncType → List Import → List Callee → Type 0
AreLinked links types [] [] = Unit {0}
AreLinked links types [] (c ∷ cs) = ⊥
AreLinked links types (i ∷ is) [] = ⊥
AreLinked links types (i ∷ is) (c ∷ cs) = IsLinked links types i c × AreLinked links types is cs

-- one of the module's own functions: its type, its locals and its instructions as they nest
pub record IsOwn (types : List FuncType) (x : ℕ) (b : Body) (c : Callee) : Type 0 where
  pub func_type : FuncType
  pub code : Instructions
  pub type_is : slice_get types x ≡ Some func_type
  pub nests : Nests b.code code
  pub callee : c ≡ own func_type (record { locals = local_types b.locals; code = code })

abbrev pub AreOwn : List FuncType → List ℕ → List Body → List Callee → Type 0
AreOwn types [] [] [] = Unit {0}
AreOwn types (x ∷ xs) (b ∷ bs) (c ∷ cs) = IsOwn types x b c × AreOwn types xs bs cs
AreOwn types xs bs cs = ⊥

-- an exported function of this name and of type [] -> []
pub record IsExportedAs (name : List ℕ) (m : Module) (x : ℕ) : Type 0 where
  pub exported : Contains m.exports (record { name = name; kind = exports.Function x })
  pub type_index : ℕ
  pub function : slice_get (functions_of m) x ≡ Some type_index
  pub type_is : slice_get m.types type_index ≡ Some (record { params = []; results = [] })

abbrev pub IsStart : Module → ℕ → Type 0
IsStart = IsExportedAs (codes "_start")

-- ---- memory, table and globals

-- the value of a constant expression, over these globals
abbrev pub constant_value : List Val → List Instruction → Option Val
constant_value gs [] = None
constant_value gs (op.I32Const n ∷ rest) = Some (val I32 n)
constant_value gs (op.I64Const n ∷ rest) = Some (val I64 n)
constant_value gs (op.F32Const n ∷ rest) = Some (val F32 n)
constant_value gs (op.F64Const n ∷ rest) = Some (val F64 n)
constant_value gs (op.GlobalGet x ∷ rest) = slice_get gs x
constant_value gs (i ∷ rest) = None

-- the first values of globals, which can only come from constants: no global is imported
abbrev pub AreFirst : List GlobalEntry → List Val → Type 0
AreFirst [] [] = Unit {0}
AreFirst [] (v ∷ vs) = ⊥
AreFirst (g ∷ gs) [] = ⊥
AreFirst (g ∷ gs) (v ∷ vs) = (constant_value [] g.init ≡ Some v) × AreFirst gs vs

-- where a segment begins; its offset is read unsigned
abbrev pub segment_start : List Val → List Instruction → ℕ
segment_start gs offset = elim (constant_value gs offset) [ None ↦ 0 | Some v ↦ number_of v ]

-- pages and elements from the beginning; none where there is no memory and no table
abbrev pub minimum : List Limits → ℕ
minimum [] = 0
minimum (l ∷ ls) = l.min

-- pages that memory may have: the declared maximum, the limit handed in and 65,536
abbrev pub page_limit : ℕ → List Limits → ℕ
page_limit pages [] = 0
page_limit pages (l ∷ ls) = min (min (unwrap_or l.max 65536) pages) 65536

abbrev pub ElementsInside : List Val → ℕ → List ElementSegment → Type 0
ElementsInside gs size es = AllByRecursion (λ e. segment_start gs e.offset + length e.functions ≤ size) es

abbrev pub DataInside : List Val → ℕ → List DataSegment → Type 0
DataInside gs size ds = AllByRecursion (λ d. segment_start gs d.offset + length d.bytes ≤ size) ds

-- the segments are written one after the other
abbrev pub with_elements : List Val → List (Option ℕ) → List ElementSegment → List (Option ℕ)
with_elements gs table [] = table
with_elements gs table (e ∷ es) =
    with_elements gs (with_functions table (segment_start gs e.offset) e.functions) es

abbrev pub with_data : List Val → List ℕ → List DataSegment → List ℕ
with_data gs memory [] = memory
with_data gs memory (d ∷ ds) = with_data gs (written memory (segment_start gs d.offset) d.bytes) ds

-- ---- the first configuration

-- the instance i and the store s of the module, and the functions xs that are entered: the start function, if there is
-- one, and `_start`
pub record Instantiates (links : LinksOf) (pages : ℕ) (m : Module) (i : Instance) (s : Store) (xs : List ℕ) : Type 0 where
  pub linked : List Callee
  pub owned : List Callee
  pub main : ℕ
  pub are_linked : AreLinked links m.types m.imports linked
  pub are_own : AreOwn m.types m.functions m.bodies owned
  pub is_start : IsStart m main
  pub within_limit : minimum m.memories ≤ pages
  pub elements_inside : ElementsInside s.globals (minimum m.tables) m.element_segments
  pub data_inside : DataInside s.globals (minimum m.memories * 65536) m.data_segments
  pub func_types : i.func_types ≡ m.types
  pub callees : i.callees ≡ linked ++ owned
  pub limit : i.page_limit ≡ page_limit pages m.memories
  pub globals : AreFirst m.globals s.globals
  pub table : s.table ≡ with_elements s.globals (replicate (minimum m.tables) None) m.element_segments
  pub memory : s.memory ≡ with_data s.globals (replicate (minimum m.memories * 65536) 0) m.data_segments
  pub used : s.used ≡ 0
  pub entered : xs ≡ option_to_list m.start ++ main ∷ []
