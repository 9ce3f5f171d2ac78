use Rattle.std.proofs.Common.{refl, inl, inr}
use Rattle.fed_session.specs.Feeding.{around}
use Rattle.fed_session.proofs.Acting.{does_answer, never_before}
use Rattle.fed_session.proofs.Branches.{if_ok}
use Rattle.fed_session.proofs.Pieces.{nothing_done}
use Rattle.fed_session.proofs.feeding.FedInstance.answer_all.Goals as goal

pub returns-clause-answered : goal.returns-clause-answered
returns-clause-answered g c =
    let a = around g.D.Device g.W1.Write g.W2.Write g.W1.Outlet.took g.W1.Outlet.refused g.W2.Outlet.took g.W2.Outlet.refused in
    rw (← c.self.view_is) (if_ok _ _ c.answer_all.result (λ u k.
    let (y, args, d) = does_answer a c.self.inside.goes_on c.self.inside.instance c.answer_all.new.self _ k.0 k.1 _ (never_before _ _ c.self.view_is c.if-waits.ensures.no) k.2 in
    (y, args, (d, refl))) c.answer_all.ensures.answered)

pub returns-clause-refused : goal.returns-clause-refused
returns-clause-refused g c =
    rw (← c.self.view_is) (nothing_done c.self.inside.goes_on c.self.inside.instance c.answer_all.new.self _ _ c.answer_all.result (λ e k. inr k) c.answer_all.ensures.refused)

pub returns-then-waits-clause-refused : goal.returns-then-waits-clause-refused
returns-then-waits-clause-refused g c = (refl, inl (refl, c.if-waits.ensures.yes))
