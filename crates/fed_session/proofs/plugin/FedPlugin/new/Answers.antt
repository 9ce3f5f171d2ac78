use Rattle.std.proofs.Common.{List, ℕ, refl, inl, inr, subst, sym, ◌∙◌}
use Rattle.wasm_syntax.specs.declared.module.Module.{Module}
use Rattle.wasm_store.specs.Allocation.{with_embedder}
use Rattle.wasm_store.specs.Allocating.{NotAllocated}
use Rattle.wasm_interp.specs.Shared.{AreLinksOf}
use Rattle.plugin_session.specs.States.{links}
use Rattle.deferred_calls.specs.Machines.{AreParts}
use Rattle.fed_session.specs.Waiting.{AreAnswered, deferred_at, links_at_once, parts_at}
use Rattle.fed_session.proofs.plugin.FedPlugin.new.Goals as goal

-- an import is nobody's
pub returns-then-not-can_wait-clause-refused : goal.returns-then-not-can_wait-clause-refused
returns-then-not-can_wait-clause-refused c =
    let k = c.if-not-can_wait.ensures.no in
    (refl, inl (k.0, refl, subst (λ (m : Module). AreAnswered m → ⊥) c.module.ensures.value k.1))

pub invariant_of-result : goal.invariant_of-result
invariant_of-result c = (
  subst (λ (r : List ℕ). AreLinksOf (with_embedder (links_at_once c.args.goes_on) r) c.in-Ok.module.valid c.in-Ok.module.calls) c.reserved.ensures c.in-Ok.ensures.linked,
  subst (λ (m : Module). AreParts (deferred_at c.args.goes_on) m links (parts_at c.args.goes_on)) (c.module.ensures.value ∙ sym c.in-Ok.ensures.module.0) c.if-not-can_wait.ensures.yes,
)

-- the module has no instance
pub returns-in-Err-clause-refused : goal.returns-in-Err-clause-refused
returns-in-Err-clause-refused c = (
  c.in-Err.ensures.refused.0,
  inr (subst (λ (r : List ℕ). NotAllocated (with_embedder (links_at_once c.args.goes_on) r) c.args.pages c.args.valid c.in-Err.refused.fault) c.reserved.ensures c.in-Err.ensures.refused.1),
)
