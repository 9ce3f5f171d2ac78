-- From a valid module to an instance and its first store (section 4.5.4), cut to the profile: no import but functions. An import
-- is a call of the host, or a function of whoever embeds the machine. No `_start` is asked for.
use Rattle.std.specs.Prelude.{◌≡◌, ℕ, suc, ◌*◌, ◌≤◌, Bool, not, ◌&&◌, List, [], ◌∷◌, ◌++◌, length, nat_lt, nat_eq, Option, Some, None, slice_get, replicate, codes, if◌then◌else◌}
use Rattle.std.specs.Cmp.Lexicographic.{pointwise}
use Rattle.wasm_syntax.specs.declared.module.FuncType.{FuncType}
use Rattle.wasm_syntax.specs.declared.module.ImportKind.TheVariants as imports
use Rattle.wasm_syntax.specs.declared.module.Import.{Import}
use Rattle.wasm_syntax.specs.declared.module.Module.{Module}
use Rattle.wasm_store.specs.declared.linked.Linked.{Linked}
use Rattle.wasm_store.specs.declared.linked.Linked.TheVariants.{Host, Embedder}
use Rattle.wasm_store.specs.Instances.{Callee, callee_of, Instance, Store}
use Rattle.wasm_store.specs.Instantiation.{LinksOf, AreOwn, AreFirst, ElementsInside, DataInside, minimum, page_limit, with_elements, with_data, IsExportedAs}

-- what answers the import of this index, module name, name and type
abbrev pub AllLinks : Type 0
AllLinks = ℕ → List ℕ → List ℕ → FuncType → Option Linked

-- whether the embedder answers an import that the host doesn't: not one of the module name that is the host's alone, and none that
-- takes more than 16 arguments
abbrev pub may_embed : List ℕ → List ℕ → FuncType → Bool
may_embed reserved module_name f = not (pointwise nat_eq module_name reserved) && nat_lt (length f.params) 17

-- the links of a host, and the embedder's functions beside them
abbrev pub with_embedder : LinksOf → List ℕ → AllLinks
with_embedder links reserved n module_name name f = elim (links module_name name f) [ None ↦ if may_embed reserved module_name f then Some (Embedder n) else None | Some c ↦ Some (Host c) ]

-- an import and its function instance
pub record IsLinkedTo (links : AllLinks) (types : List FuncType) (n : ℕ) (i : Import) (c : Callee) : Type 0 where
  pub index : ℕ
  pub func_type : FuncType
  pub linked : Linked
  pub kind : i.kind ≡ imports.Function index
  pub type_is : slice_get types index ≡ Some func_type
  pub links_to : links n i.module_name i.name func_type ≡ Some linked
  pub callee : c ≡ callee_of func_type linked

-- from the import of this index on
abbrev pub AreLinkedTo : AllLinks → List FuncType → ℕ → List Import → List Callee → Type 0
AreLinkedTo links types n [] [] = Unit {0}
AreLinkedTo links types n [] (c ∷ cs) = ⊥
AreLinkedTo links types n (i ∷ is) [] = ⊥
AreLinkedTo links types n (i ∷ is) (c ∷ cs) = IsLinkedTo links types n i c × AreLinkedTo links types (suc n) is cs

-- an exported function `_initialize` of type [] -> []
abbrev pub IsInitializer : Module → ℕ → Type 0
IsInitializer = IsExportedAs (codes "_initialize")

-- the instance i and the store s of the module, with at most this many pages
pub record Allocates (links : AllLinks) (pages : ℕ) (m : Module) (i : Instance) (s : Store) : Type 0 where
  pub linked : List Callee
  pub owned : List Callee
  pub are_linked : AreLinkedTo links m.types 0 m.imports linked
  pub are_own : AreOwn m.types m.functions m.bodies owned
  pub within_limit : minimum m.memories ≤ pages
  pub elements_inside : ElementsInside s.globals (minimum m.tables) m.element_segments
  pub data_inside : DataInside s.globals (minimum m.memories * 65536) m.data_segments
  pub func_types : i.func_types ≡ m.types
  pub callees : i.callees ≡ linked ++ owned
  pub limit : i.page_limit ≡ page_limit pages m.memories
  pub globals : AreFirst m.globals s.globals
  pub table : s.table ≡ with_elements s.globals (replicate (minimum m.tables) None) m.element_segments
  pub memory : s.memory ≡ with_data s.globals (replicate (minimum m.memories * 65536) 0) m.data_segments
  pub used : s.used ≡ 0

-- the initializer, or that there is none
abbrev pub HasInitializer : Module → Option ℕ → Type 0
HasInitializer m None = (x : ℕ) → IsInitializer m x → ⊥
HasInitializer m (Some x) = IsInitializer m x
