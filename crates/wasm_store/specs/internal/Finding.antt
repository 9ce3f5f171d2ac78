-- What the steps of instantiation find (section 4.5.4): what answers the imports, the exported `_start`, and the first memory,
-- table and globals. A step that fails in several ways has one definition of success and one of failure (`AreFound`,
-- `NotFound`; `AreStored`, `NotStored`).
use Rattle.std.specs.Prelude.{◌≡◌, ℕ, ◌*◌, ◌⊎◌, List, [], ◌∷◌, Option, Some, None, replicate, slice_get}
use Rattle.std.specs.List.{AllByRecursion}
use Rattle.wasm_syntax.specs.declared.instruction.Instruction.{Instruction}
use Rattle.wasm_syntax.specs.declared.instruction.Instruction.TheVariants as op
use Rattle.wasm_syntax.specs.declared.module.FuncType.{FuncType}
use Rattle.wasm_syntax.specs.declared.module.ImportKind.{ImportKind}
use Rattle.wasm_syntax.specs.declared.module.ImportKind.TheVariants as imports
use Rattle.wasm_syntax.specs.declared.module.Export.{Export}
use Rattle.wasm_syntax.specs.declared.module.ExportKind.TheVariants as exports
use Rattle.wasm_syntax.specs.declared.module.Module.{Module}
use Rattle.wasm_valid.specs.Spaces.{functions_of}
use Rattle.wasm_store.specs.declared.linked.Linked.{Linked}
use Rattle.wasm_store.specs.declared.fault.InstanceFault.{InstanceFault}
use Rattle.wasm_store.specs.declared.fault.InstanceFault.TheVariants as faults
use Rattle.wasm_store.specs.Values.{Val, IsInType, numbers}
use Rattle.wasm_store.specs.Instances.{Callee}
use Rattle.wasm_store.specs.NotStarting.{ElementsOutside, DataOutside}
use Rattle.wasm_store.specs.Instantiation.{LinksOf, AreFirst, minimum, ElementsInside, DataInside, with_elements, with_data}
use Rattle.wasm_store.specs.Instantiating.{AreCallees}
use Rattle.wasm_store.specs.Allocation.{AllLinks, AreLinkedTo, with_embedder}
use Rattle.wasm_store.specs.Allocating.{SomeUnlinkedTo, all_by_host}

-- an expression of a constant of 32 bits
abbrev pub IsNarrow : List Instruction → Type 0
IsNarrow [] = ⊥
IsNarrow (op.I32Const n ∷ rest) = Unit {0}
IsNarrow (op.F32Const n ∷ rest) = Unit {0}
IsNarrow (i ∷ rest) = ⊥

-- only functions are imported
abbrev pub IsFunction : ImportKind → Type 0
IsFunction (imports.Function x) = Unit {0}
IsFunction k = ⊥

abbrev pub ImportsFunctions : Module → Type 0
ImportsFunctions m = AllByRecursion (λ i. IsFunction i.kind) m.imports

-- function x has this type
pub record HasType (m : Module) (x : ℕ) (f : FuncType) : Type 0 where
  pub type_index : ℕ
  pub function : slice_get (functions_of m) x ≡ Some type_index
  pub type_is : slice_get m.types type_index ≡ Some f

-- an export of function x by this name
abbrev pub export_of : List ℕ → ℕ → Export
export_of name x = record { name = name; kind = exports.Function x }

-- the export is that of a function of type [] -> [] by this name
pub record ExportsAs (name : List ℕ) (m : Module) (e : Export) (x : ℕ) : Type 0 where
  pub is : e ≡ export_of name x
  pub has_type : HasType m x (record { params = []; results = [] })

-- ---- imports

-- every import has what answers it
pub record AreFound (links : AllLinks) (m : Module) (calls : List Linked) : Type 0 where
  pub linked : List Callee
  pub are_linked : AreLinkedTo links m.types 0 m.imports linked
  pub are_callees : AreCallees m.types m.imports calls linked

-- an import was not linked, or memory was refused
abbrev pub NotFound : AllLinks → Module → InstanceFault → Type 0
NotFound links m e = (e ≡ faults.Memory) ⊎ ((e ≡ faults.Import) × SomeUnlinkedTo links m.types 0 m.imports)

-- the links of a host, with the embedder's functions or without
abbrev pub links_with : LinksOf → Option (List ℕ) → AllLinks
links_with links None = all_by_host links
links_with links (Some reserved) = with_embedder links reserved

-- ---- the whole

-- these are the numbers of the globals' first values
pub record HaveFirst (m : Module) (globals : List ℕ) : Type 0 where
  pub values : List Val
  pub are_first : AreFirst m.globals values
  pub numbers_are : numbers values ≡ globals
  pub in_range : AllByRecursion IsInType values

-- what the memory, the table and the globals begin with
pub record AreStored (m : Module) (memory : List ℕ) (table : List (Option ℕ)) (globals : List ℕ) : Type 0 where
  pub first : HaveFirst m globals
  pub elements_inside : (vs : List Val) → numbers vs ≡ globals → ElementsInside vs (minimum m.tables) m.element_segments
  pub data_inside : (vs : List Val) → numbers vs ≡ globals → DataInside vs (minimum m.memories * 65536) m.data_segments
  pub memory_is : (vs : List Val) → numbers vs ≡ globals → memory ≡ with_data vs (replicate (minimum m.memories * 65536) 0) m.data_segments
  pub table_is : (vs : List Val) → numbers vs ≡ globals → table ≡ with_elements vs (replicate (minimum m.tables) None) m.element_segments

-- a segment is outside, or memory was refused
abbrev pub NotStored : Module → InstanceFault → Type 0
NotStored m faults.ElementOutOfBounds = (gs : List Val) × AreFirst m.globals gs × ElementsOutside gs (minimum m.tables) m.element_segments
NotStored m faults.DataOutOfBounds =
    (gs : List Val) × AreFirst m.globals gs × ElementsInside gs (minimum m.tables) m.element_segments
    × DataOutside gs (minimum m.memories * 65536) m.data_segments
NotStored m faults.Memory = Unit {0}
NotStored m e = ⊥
