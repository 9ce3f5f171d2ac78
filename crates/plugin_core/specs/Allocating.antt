-- The instance that a command begins with is one by allocation.
use Rattle.std.specs.Prelude.{ℕ, List}
use Rattle.wasm_syntax.specs.declared.module.Module.{Module}
use Rattle.wasm_store.specs.Instances.{Instance, Store}
use Rattle.wasm_store.specs.Instantiation.{LinksOf, Instantiates}
use Rattle.wasm_store.specs.Allocation.{Allocates}
use Rattle.wasm_store.specs.Allocating.{all_by_host}

-- its imports are all answered by the host
abbrev pub InstancesAllocate : Type 0
InstancesAllocate = (links : LinksOf) (pages : ℕ) (m : Module) (i : Instance) (s : Store) (entered : List ℕ)
    → Instantiates links pages m i s entered → Allocates (all_by_host links) pages m i s
