use Rattle.std.proofs.Common.{ℕ, List, sym, subst}
use Rattle.wasm_store.specs.Allocation.{with_embedder}
use Rattle.wasm_interp.specs.Shared.{AreLinksOf}
use Rattle.fed_session.specs.Waiting.{links_at_once}
use Rattle.fed_session.proofs.Opening.{not_opened, opened}
use Rattle.fed_session.proofs.plugin.FedPlugin.open.Goals as goal

pub open-requires : goal.open-requires
open-requires c =
    let p = c.self.inside in
    subst (λ (r : List ℕ). AreLinksOf (with_embedder (links_at_once p.goes_on) r) p.module.valid p.module.calls) (sym c.reserved.ensures) c.self.invariant.0

pub returns-clause-opens : goal.returns-clause-opens
returns-clause-opens c =
    let p = c.self.inside in
    rw (← c.self.view_is) (opened p.goes_on p.module c.reserved.result.now c.open.result c.reserved.ensures c.self.invariant.1 c.open.ensures.opens)

pub returns-clause-refused : goal.returns-clause-refused
returns-clause-refused c =
    let p = c.self.inside in
    rw (← c.self.view_is) (not_opened p.goes_on p.module c.reserved.result.now c.open.result c.reserved.ensures c.open.ensures.refused)
