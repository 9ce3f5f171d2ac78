-- From a valid module to an instance and its first store (section 4.5.4), cut to the profile: no import but functions. An import
-- is a call of the host, or a function of whoever embeds the machine. No `_start` is asked for. `Allocates` says what success means,
-- `NotAllocated` what each fault but `Memory` means, and `IsAllocated` ties the code to them.
use Rattle.std.specs.Prelude.{◌≡◌, ℕ, suc, ◌*◌, ◌<◌, ◌≤◌, ◌⊎◌, List, [], ◌∷◌, Some, slice_get}
use Rattle.std.specs.List.{AllByRecursion}
use Rattle.std.specs.Option.{option_map}
use Rattle.wasm_syntax.specs.declared.module.FuncType.{FuncType}
use Rattle.wasm_syntax.specs.declared.module.Import.{Import}
use Rattle.wasm_syntax.specs.declared.module.Module.{Module}
use Rattle.wasm_store.specs.declared.linked.Linked.TheVariants.{Host, Embedder}
use Rattle.wasm_store.specs.declared.fault.InstanceFault.{InstanceFault}
use Rattle.wasm_store.specs.declared.fault.InstanceFault.TheVariants as faults
use Rattle.wasm_store.specs.declared.instantiation.Allocated.{Allocated}
use Rattle.wasm_store.specs.Values.{Val, IsInType, numbers}
use Rattle.wasm_store.specs.Instances.{Callee, outside, Instance, Store}
use Rattle.wasm_store.specs.NotStarting.{ElementsOutside, DataOutside}
use Rattle.wasm_store.specs.Instantiation.{LinksOf, AreFirst, ElementsInside, minimum}
use Rattle.wasm_store.specs.Instantiating.{AreCallees}
pub use Rattle.wasm_store.specs.Allocation.{AllLinks, may_embed, with_embedder, IsLinkedTo, AreLinkedTo, IsInitializer, Allocates, HasInitializer}

-- the links of a host that answers each import itself
abbrev pub all_by_host : LinksOf → AllLinks
all_by_host links n module_name name f = option_map Host (links module_name name f)

-- ---- functions

-- one of the imports is no function, or nobody answers one of its names and type; or its type index names no type (no `type_is`),
-- which a valid module rules out
abbrev pub SomeUnlinkedTo : AllLinks → List FuncType → ℕ → List Import → Type 0
SomeUnlinkedTo links types n [] = ⊥
SomeUnlinkedTo links types n (i ∷ is) = ((c : Callee) → IsLinkedTo links types n i c → ⊥) ⊎ SomeUnlinkedTo links types (suc n) is

-- ---- the whole

-- function x is the start function or the initializer
abbrev pub EntersFirst : Module → ℕ → Type 0
EntersFirst m x = (m.start ≡ Some x) ⊎ IsInitializer m x

-- what was made is an instance with its first store; the links are those of the imports
pub record IsAllocated (links : AllLinks) (pages : ℕ) (m : Module) (r : Allocated) : Type 0 where
  pub instance : Instance
  pub store : Store
  pub allocates : Allocates links pages m instance store
  pub calls : AreCallees m.types m.imports r.calls.items allocates.linked
  pub memory : store.memory ≡ r.memory
  pub limit : instance.page_limit ≡ r.page_limit
  pub table : store.table ≡ r.table
  pub globals : numbers store.globals ≡ r.globals
  pub in_range : AllByRecursion IsInType store.globals
  pub start : r.start ≡ m.start
  pub initializer : HasInitializer m r.initializer
  -- neither of the two that are entered first is the embedder's
  pub enters : (x k : ℕ) → (r.start ≡ Some x) ⊎ (r.initializer ≡ Some x) → slice_get r.calls.items x ≡ Some (Embedder k) → ⊥

abbrev pub AllLinked : AllLinks → Module → Type 0
AllLinked links m = (cs : List Callee) × AreLinkedTo links m.types 0 m.imports cs

-- import x is a function of the embedder
pub record EmbedsAt (links : AllLinks) (m : Module) (x : ℕ) : Type 0 where
  pub linked : List Callee
  pub are_linked : AreLinkedTo links m.types 0 m.imports linked
  pub func_type : FuncType
  pub number : ℕ
  pub is_callee : slice_get linked x ≡ Some (outside func_type number)

-- why a module is refused; of several reasons the first in this order is named
abbrev pub NotAllocated : AllLinks → ℕ → Module → InstanceFault → Type 0
NotAllocated links pages m faults.Import = SomeUnlinkedTo links m.types 0 m.imports ⊎ ((x : ℕ) × EntersFirst m x × EmbedsAt links m x)
NotAllocated links pages m faults.NoStart = ⊥
NotAllocated links pages m faults.PageLimit = AllLinked links m × (pages < minimum m.memories)
NotAllocated links pages m faults.ElementOutOfBounds =
    AllLinked links m × (minimum m.memories ≤ pages)
    × ((gs : List Val) × AreFirst m.globals gs × ElementsOutside gs (minimum m.tables) m.element_segments)
NotAllocated links pages m faults.DataOutOfBounds =
    AllLinked links m × (minimum m.memories ≤ pages)
    × ((gs : List Val) × AreFirst m.globals gs × ElementsInside gs (minimum m.tables) m.element_segments
    × DataOutside gs (minimum m.memories * 65536) m.data_segments)
NotAllocated links pages m faults.Memory = Unit {0}
