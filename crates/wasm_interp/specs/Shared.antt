-- A module that is prepared once, for any number of machines.
use Rattle.std.specs.Prelude.{ℕ, List}
use Rattle.wasm_syntax.specs.declared.module.Module.{Module}
use Rattle.wasm_store.specs.declared.linked.Linked.{Linked}
use Rattle.wasm_steps.specs.Configuration.{Callee}
use Rattle.wasm_store.specs.Instantiation.{LinksOf, AreLinked}
use Rattle.wasm_store.specs.Allocation.{AllLinks, AreLinkedTo}
use Rattle.wasm_interp.specs.Stands.{AreCallees}

-- what callers see of it: the module, found valid, how many pages a memory may have, and what answers each import
pub record Ready : Type 0 where
  pub valid : Module
  pub pages : ℕ
  pub calls : List Linked

-- what answers the module's imports by these links
pub record AreLinksOf (links : AllLinks) (m : Module) (calls : List Linked) : Type 0 where
  pub linked : List Callee
  pub are_linked : AreLinkedTo links m.types 0 m.imports linked
  pub are_callees : AreCallees m.types m.imports calls linked

-- these are the host's calls that these links give the module's imports
pub record AreCallsOf (links : LinksOf) (m : Module) (calls : List Linked) : Type 0 where
  pub linked : List Callee
  pub are_linked : AreLinked links m.types m.imports linked
  pub are_callees : AreCallees m.types m.imports calls linked
