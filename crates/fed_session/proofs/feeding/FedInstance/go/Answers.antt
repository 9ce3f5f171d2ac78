use Rattle.std.proofs.Common.{◌≡◌, ◌+◌, arith}
use Rattle.fed_session.specs.Feeding.{around}
use Rattle.fed_session.proofs.Acting.{asked_here, goes_to_ask, goes_to_event, goes_to_grant, goes_to_spent, goes_to_wait, still_asked, still_typed, waits_whichever}
use Rattle.fed_session.proofs.feeding.FedInstance.go.Goals as goal

-- nobody is asked
pub returns-in_default-clause-went : goal.returns-in_default-clause-went
returns-in_default-clause-went g c =
    let a = around g.D.Device g.W1.Write g.W2.Write g.W1.Outlet.took g.W1.Outlet.refused g.W2.Outlet.took g.W2.Outlet.refused in
    rw (← c.self.view_is) (goes_to_event a c.self.inside.goes_on c.self.inside.instance c.go_to.new.self c.args.units c.in_ok-event.event c.in_default.not-Asked c.in_ok-event.ensures.went)

-- the embedder is
pub returns-then-not-waits-clause-went : goal.returns-then-not-waits-clause-went
returns-then-not-waits-clause-went g c =
    let a = around g.D.Device g.W1.Write g.W2.Write g.W1.Outlet.took g.W1.Outlet.refused g.W2.Outlet.took g.W2.Outlet.refused in
    rw (← c.self.view_is) (goes_to_ask a c.self.inside.goes_on c.self.inside.instance c.go_to.new.self c.take_ask.new.self c.args.units c.in-Asked.field-0 c.in_ok-event.event c.in-Asked.is c.in_ok-event.ensures.went c.take_ask.ensures)

pub grant-errno-requires-clause-asked : goal.grant-errno-requires-clause-asked
grant-errno-requires-clause-asked g c = still_asked c.self.inside.goes_on c.go_to.new.self _ _ c.self-2.view_is c.starves.ensures.kept c.if-not-waits.ensures.yes

pub grant-errno-requires-clause-typed : goal.grant-errno-requires-clause-typed
grant-errno-requires-clause-typed g c = still_typed c.self.inside.goes_on c.go_to.new.self _ _ c.self-2.view_is c.starves.ensures.kept c.if-not-waits.ensures.yes

-- no unit is left for the read
pub returns-then-used-end-clause-went : goal.returns-then-used-end-clause-went
returns-then-used-end-clause-went g c =
    let a = around g.D.Device g.W1.Write g.W2.Write g.W1.Outlet.took g.W1.Outlet.refused g.W2.Outlet.took g.W2.Outlet.refused in
    let asks = asked_here a c.self.inside.goes_on c.self.inside.instance c.go_to.new.self c.args.units c.in-Asked.field-0 c.in_ok-event.event c.in-Asked.is c.in_ok-event.ensures.went in
    rw (← c.self.view_is) (goes_to_spent a c.self.inside.goes_on c.self.inside.instance c.go_to.new.self c.args.units c.in-Asked.field-0 asks (omega (arith, c.if-used-end.true, c.used-2.ensures, c.used.ensures)))

-- it waits
pub returns-in-Some-clause-went : goal.returns-in-Some-clause-went
returns-in-Some-clause-went g c =
    let a = around g.D.Device g.W1.Write g.W2.Write g.W1.Outlet.took g.W1.Outlet.refused g.W2.Outlet.took g.W2.Outlet.refused in
    let asks = asked_here a c.self.inside.goes_on c.self.inside.instance c.go_to.new.self c.args.units c.in-Asked.field-0 c.in_ok-event.event c.in-Asked.is c.in_ok-event.ensures.went in
    let left : c.go_to.new.self.machine.used ≡ c.self.inside.instance.machine.used + c.args.units → ⊥ = λ e. c.if-used-end.false (omega (arith, e, c.used-2.ensures, c.used.ensures)) in
    rw (← c.self.view_is) (goes_to_wait a c.self.inside.goes_on c.self.inside.instance c.go_to.new.self c.starves.new.self c.args.units c.in-Asked.field-0 c.in-Some.wanted asks left c.in-Some.ensures.starves c.starves.ensures.kept)

-- the host answers
pub returns-clause-went : goal.returns-clause-went
returns-clause-went g c =
    let a = around g.D.Device g.W1.Write g.W2.Write g.W1.Outlet.took g.W1.Outlet.refused g.W2.Outlet.took g.W2.Outlet.refused in
    let k = c.if-not-waits.ensures.yes in
    let asks = asked_here a c.self.inside.goes_on c.self.inside.instance c.go_to.new.self c.args.units c.in-Asked.field-0 c.in_ok-event.event c.in-Asked.is c.in_ok-event.ensures.went in
    let left : c.go_to.new.self.machine.used ≡ c.self.inside.instance.machine.used + c.args.units → ⊥ = λ e. c.if-used-end.false (omega (arith, e, c.used-2.ensures, c.used.ensures)) in
    rw (← c.self.view_is) (goes_to_grant a c.self.inside.goes_on c.self.inside.instance c.go_to.new.self _ _ c.grant-errno.new.self c.args.units c.in-Asked.field-0 c.grant-errno.result asks left
    (waits_whichever c.self.inside.goes_on c.go_to.new.self.machine k.0 k.1 k.2 k.3 k.4) c.self-2.view_is c.starves.ensures.kept c.grant-errno.ensures)
