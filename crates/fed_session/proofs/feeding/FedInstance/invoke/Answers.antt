use Rattle.std.proofs.Common.{refl}
use Rattle.fed_session.specs.Feeding.{around}
use Rattle.fed_session.proofs.Acting.{does_invoke}
use Rattle.fed_session.proofs.Branches.{if_ok}
use Rattle.fed_session.proofs.Pieces.{nothing_done}
use Rattle.fed_session.proofs.feeding.FedInstance.invoke.Goals as goal

pub returns-clause-invoked : goal.returns-clause-invoked
returns-clause-invoked g c =
    let a = around g.D.Device g.W1.Write g.W2.Write g.W1.Outlet.took g.W1.Outlet.refused g.W2.Outlet.took g.W2.Outlet.refused in
    rw (← c.self.view_is) (if_ok _ _ c.invoke.result (λ u k. (k.0, k.1, (does_invoke a c.self.inside.goes_on _ _ k.0 _ k.2, refl))) c.invoke.ensures.invoked)

pub returns-clause-refused : goal.returns-clause-refused
returns-clause-refused g c =
    rw (← c.self.view_is) (nothing_done c.self.inside.goes_on c.self.inside.instance c.invoke.new.self _ _ c.invoke.result (λ e k. k) c.invoke.ensures.refused)
