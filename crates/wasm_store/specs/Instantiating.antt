-- What `instantiate` promises at success (section 4.5.4), by `IsInstantiated`: what it returns is an instance and a
-- first store by `Instantiates`. `AreCallees` says that the calls that it returns are those of the imports.
use Rattle.std.specs.Prelude.{◌≡◌, ℕ, List, [], ◌∷◌, ◌++◌, Some, slice_get}
use Rattle.std.specs.List.{AllByRecursion}
use Rattle.std.specs.Option.{option_to_list}
use Rattle.wasm_syntax.specs.declared.module.FuncType.{FuncType}
use Rattle.wasm_syntax.specs.declared.module.Import.{Import}
use Rattle.wasm_syntax.specs.declared.module.ImportKind.TheVariants as imports
use Rattle.wasm_syntax.specs.declared.module.Module.{Module}
use Rattle.wasm_store.specs.declared.linked.Linked.{Linked}
use Rattle.wasm_store.specs.declared.instantiation.Instantiated.{Instantiated}
use Rattle.wasm_store.specs.Values.{IsInType, numbers}
use Rattle.wasm_store.specs.Instances.{Callee, callee_of, Instance, Store}
use Rattle.wasm_store.specs.Instantiation.{LinksOf, Instantiates}

-- ---- functions

-- an import, what answers it, and the function instance
pub record IsCallee (types : List FuncType) (import : Import) (linked : Linked) (c : Callee) : Type 0 where
  pub index : ℕ
  pub func_type : FuncType
  pub kind : import.kind ≡ imports.Function index
  pub type_is : slice_get types index ≡ Some func_type
  pub callee : c ≡ callee_of func_type linked

abbrev pub AreCallees : List FuncType → List Import → List Linked → List Callee → Type 0
AreCallees types [] [] [] = Unit {0}
AreCallees types (i ∷ is) (l ∷ ls) (c ∷ cs) = IsCallee types i l c × AreCallees types is ls cs
AreCallees types is ls cs = ⊥

-- What was made is an instance with its first store, and the functions that are entered first. The calls are those of
-- the imports.
pub record IsInstantiated (links : LinksOf) (pages : ℕ) (m : Module) (r : Instantiated) : Type 0 where
  pub instance : Instance
  pub store : Store
  pub instantiates : Instantiates links pages m instance store (option_to_list r.start ++ r.main ∷ [])
  pub calls : AreCallees m.types m.imports r.calls.items instantiates.linked
  pub memory : store.memory ≡ r.memory
  pub limit : instance.page_limit ≡ r.page_limit
  pub table : store.table ≡ r.table
  pub globals : numbers store.globals ≡ r.globals
  pub in_range : AllByRecursion IsInType store.globals
  pub start : r.start ≡ m.start
  pub main : r.main ≡ instantiates.main
