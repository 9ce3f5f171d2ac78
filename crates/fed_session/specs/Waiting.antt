-- Which calls of an instance wait for input: `fd_read`, where its input goes on. They are left to the embedder, who lets the host answer.
use Rattle.std.specs.Prelude.{◌≡◌, ◌⊎◌, ◌&&◌, ℕ, Bool, true, false, List, [], ◌∷◌, codes, Option, Some, None, slice_get, if◌then◌else◌}
use Rattle.wasm_syntax.specs.declared.instruction.ValueType.{ValueType}
use Rattle.wasm_syntax.specs.declared.instruction.ValueType.TheVariants.{I32}
use Rattle.wasm_syntax.specs.declared.module.FuncType.{FuncType}
use Rattle.wasm_syntax.specs.declared.module.Import.{Import}
use Rattle.wasm_syntax.specs.declared.module.ImportKind.{ImportKind}
use Rattle.wasm_syntax.specs.declared.module.ImportKind.TheVariants as imports
use Rattle.wasm_syntax.specs.declared.module.Module.{Module}
use Rattle.wasm_store.specs.declared.call.HostCall.{HostCall}
use Rattle.wasm_store.specs.declared.call.HostCall.TheVariants as call
use Rattle.wasm_store.specs.declared.fault.InstanceFault.{InstanceFault}
use Rattle.wasm_store.specs.declared.fault.InstanceFault.TheVariants as faults
use Rattle.wasm_store.specs.Instantiation.{LinksOf}
use Rattle.wasm_store.specs.Allocation.{AllLinks, with_embedder}
use Rattle.wasm_store.specs.Allocating.{NotAllocated}
use Rattle.wasm_interp.specs.Shared.{Ready}
use Rattle.wasm_places.specs.FunctionTypes.{IsImportType}
use Rattle.wasi_calls.specs.host.Links.{link}
use Rattle.deferred_calls.specs.Machines.{Deferring}
use Rattle.plugin_session.specs.States.{links}

-- one i32
abbrev pub gives_i32 : List ValueType → Bool
gives_i32 (I32 ∷ []) = true
gives_i32 types = false

-- where reads wait, what the host still answers itself
abbrev pub answered_at_once : Bool → Option HostCall → Option HostCall
answered_at_once true (Some call.FdRead) = None
answered_at_once waits o = o

-- and what waits
abbrev pub waiting : Bool → Option HostCall → Option HostCall
waiting true (Some call.FdRead) = Some call.FdRead
waiting waits o = None

-- where the input goes on, reads wait
abbrev pub waits_at : Bool → FuncType → Bool
waits_at goes_on f = goes_on && gives_i32 f.results

-- the host's own links then
abbrev pub links_at_once : Bool → LinksOf
links_at_once goes_on module_name name f = answered_at_once (waits_at goes_on f) (link module_name name f)

-- The module name whose imports are the host's alone. Where reads wait it is none that a module of WASI has, since they are left to the
-- embedder.
abbrev pub reserved_at : Bool → List ℕ
reserved_at goes_on = if goes_on then [] else codes "wasi_snapshot_preview1"

-- so the machine has these links
abbrev pub parts_at : Bool → AllLinks
parts_at goes_on = with_embedder (links_at_once goes_on) (reserved_at goes_on)

-- ---- by the module's imports

abbrev pub waits_by_type : Bool → Import → Option FuncType → Option HostCall
waits_by_type goes_on i None = None
waits_by_type goes_on i (Some f) = waiting (waits_at goes_on f) (link i.module_name i.name f)

abbrev pub waits_by_kind : Bool → Module → Import → ImportKind → Option HostCall
waits_by_kind goes_on m i (imports.Function index) = waits_by_type goes_on i (slice_get m.types index)
waits_by_kind goes_on m i other = None

abbrev pub waits_by_import : Bool → Module → Option Import → Option HostCall
waits_by_import goes_on m None = None
waits_by_import goes_on m (Some i) = waits_by_kind goes_on m i i.kind

-- which call an import is deferred from, if it waits
abbrev pub deferred_at : Bool → Deferring
deferred_at goes_on m n = waits_by_import goes_on m (slice_get m.imports n)

-- ---- modules that are refused

-- an imported function is nobody's
pub record IsUnanswered (m : Module) (n : ℕ) : Type 0 where
  pub func_type : FuncType
  pub is_type : IsImportType m n func_type
  pub none : links n is_type.import.module_name is_type.import.name func_type ≡ None

-- each imported function is the host's or the embedder's
abbrev pub AreAnswered : Module → Type 0
AreAnswered m = (n : ℕ) → IsUnanswered m n → ⊥

-- an imported function is nobody's, where reads wait; or the module has no instance by these links
abbrev pub NotReady : Bool → ℕ → Module → InstanceFault → Type 0
NotReady goes_on pages m fault = ((goes_on ≡ true) × (fault ≡ faults.Import) × (AreAnswered m → ⊥)) ⊎ NotAllocated (parts_at goes_on) pages m fault

-- what callers see of a module that is ready for instances, and whether their reads wait
pub record FedReady : Type 0 where
  pub ready : Ready
  pub goes_on : Bool
