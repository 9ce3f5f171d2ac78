use Rattle.std.proofs.Common.{◌≡◌, Some, refl}
use Rattle.plugin_core.specs.Handling.{IsOpen}
use Rattle.plugin_session.specs.Refusals.{not_let_go_at}
use Rattle.plugin_session.specs.declared.handling.Misuse.{Misuse}
use Rattle.fed_session.specs.Feeding.{around}
use Rattle.fed_session.proofs.Acting.{does_let_go}
use Rattle.fed_session.proofs.Branches.{if_ok}
use Rattle.fed_session.proofs.Pieces.{nothing_let_go}
use Rattle.fed_session.proofs.feeding.FedInstance.abandon.Goals as goal

pub returns-clause-abandoned : goal.returns-clause-abandoned
returns-clause-abandoned g c =
    let a = around g.D.Device g.W1.Write g.W2.Write g.W1.Outlet.took g.W1.Outlet.refused g.W2.Outlet.took g.W2.Outlet.refused in
    rw (← c.self.view_is) (if_ok _ _ c.abandon.result (λ u k. (does_let_go a c.self.inside.goes_on _ _ k, refl)) c.abandon.ensures.abandoned)

pub returns-clause-refused : goal.returns-clause-refused
returns-clause-refused g c =
    rw (← c.self.view_is) (nothing_let_go c.self.inside.goes_on c.self.inside.instance c.abandon.new.self (IsOpen c.self.inside.instance.stage → ⊥) (λ (e : Misuse). not_let_go_at c.self.inside.instance.stage ≡ Some e)
    c.abandon.result c.abandon.ensures.refused)
