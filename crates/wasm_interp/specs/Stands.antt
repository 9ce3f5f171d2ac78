-- Module instances (section 4.2.5): which instance a module has when these answer its imports. A machine
-- keeps the calls but no instance, so `Represents` asks by `IsInstanceOf` which instances fit it.
use Rattle.std.specs.Prelude.{◌≡◌, List, ◌++◌}
use Rattle.wasm_syntax.specs.declared.module.Module.{Module}
use Rattle.wasm_store.specs.declared.linked.Linked.{Linked}
use Rattle.wasm_steps.specs.Configuration.{Callee, Instance}
use Rattle.wasm_store.specs.Instantiation.{AreOwn}
pub use Rattle.wasm_store.specs.Instantiating.{IsCallee, AreCallees}

-- the types of the instance are those of the module, and its functions are the imports and the module's
-- own
pub record IsInstanceOf (m : Module) (calls : List Linked) (i : Instance) : Type 0 where
  pub func_types : i.func_types ≡ m.types
  pub linked : List Callee
  pub owned : List Callee
  pub callees : i.callees ≡ linked ++ owned
  pub are_callees : AreCallees m.types m.imports calls linked
  pub are_own : AreOwn m.types m.functions m.bodies owned
