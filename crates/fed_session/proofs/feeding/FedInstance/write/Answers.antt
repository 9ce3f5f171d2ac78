use Rattle.std.proofs.Common.{refl}
use Rattle.fed_session.specs.Feeding.{around}
use Rattle.fed_session.proofs.Acting.{does_write}
use Rattle.fed_session.proofs.Branches.{if_ok}
use Rattle.fed_session.proofs.Pieces.{nothing_done}
use Rattle.fed_session.proofs.feeding.FedInstance.write.Goals as goal

pub returns-clause-written : goal.returns-clause-written
returns-clause-written g c =
    let a = around g.D.Device g.W1.Write g.W2.Write g.W1.Outlet.took g.W1.Outlet.refused g.W2.Outlet.took g.W2.Outlet.refused in
    rw (← c.self.view_is) (if_ok _ _ c.write.result (λ u k. (does_write a c.self.inside.goes_on _ _ _ k, refl)) c.write.ensures.written)

pub returns-clause-refused : goal.returns-clause-refused
returns-clause-refused g c =
    rw (← c.self.view_is) (nothing_done c.self.inside.goes_on c.self.inside.instance c.write.new.self _ _ c.write.result (λ e k. k) c.write.ensures.refused)
