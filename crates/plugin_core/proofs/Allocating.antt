-- An instance of a command is one by allocation.
use Rattle.std.proofs.Common.{ℕ, suc, List, [], ◌∷◌, ap}
use Rattle.std.specs.Option.{option_map}
use Rattle.wasm_syntax.specs.declared.module.FuncType.{FuncType}
use Rattle.wasm_syntax.specs.declared.module.Import.{Import}
use Rattle.wasm_store.specs.declared.linked.Linked.TheVariants.{Host}
use Rattle.wasm_store.specs.Instances.{Callee}
use Rattle.wasm_store.specs.Instantiation.{LinksOf, AreLinked}
use Rattle.wasm_store.specs.Allocation.{AreLinkedTo}
use Rattle.wasm_store.specs.Allocating.{all_by_host}
use Rattle.plugin_core.specs.Allocating.{InstancesAllocate}

linked_to : (links : LinksOf) (types : List FuncType) (n : ℕ) (is : List Import) (cs : List Callee) → AreLinked links types is cs → AreLinkedTo (all_by_host links) types n is cs
linked_to links types n [] [] are = tt
linked_to links types n [] (c ∷ cs) are = absurd are
linked_to links types n (i ∷ is) [] are = absurd are
linked_to links types n (i ∷ is) (c ∷ cs) (one, rest) = (
  record {
    index = one.index;
    func_type = one.func_type;
    linked = Host one.call;
    kind = one.kind;
    type_is = one.type_is;
    links_to = ap (option_map Host) one.links_to;
    callee = one.callee;
  },
  linked_to links types (suc n) is cs rest,
)

pub instances_allocate : InstancesAllocate
instances_allocate links pages m i s entered made = record {
  linked = made.linked;
  owned = made.owned;
  are_linked = linked_to links m.types 0 m.imports made.linked made.are_linked;
  are_own = made.are_own;
  within_limit = made.within_limit;
  elements_inside = made.elements_inside;
  data_inside = made.data_inside;
  func_types = made.func_types;
  callees = made.callees;
  limit = made.limit;
  globals = made.globals;
  table = made.table;
  memory = made.memory;
  used = made.used;
}
