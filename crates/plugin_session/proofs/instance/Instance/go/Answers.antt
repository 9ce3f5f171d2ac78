use Rattle.sandbox_core.specs.Devices.{devices, Calls}
use Rattle.plugin_session.proofs.Doing.{may_go_on, progresses, rises, went}
use Rattle.plugin_session.proofs.instance.Instance.go.Goals as goal

pub returns-clause-went : goal.returns-clause-went
returns-clause-went g c =
    let calls = Calls (devices g.D.Device g.R.Read g.W1.Write g.W2.Write g.R.Inlet.gave g.R.Inlet.refused g.W1.Outlet.took g.W1.Outlet.refused g.W2.Outlet.took g.W2.Outlet.refused) in
    let did = c.go-event.ensures in
    rw (← c.self.view_is) record {
      does = record {
        may = may_go_on c.self.inside.stage c.go-event.result c.go-event.new.self c.in_ok-may_go.ensures.may;
        handled = went _ calls _ _ _ _ _ c.args.units c.go-event.result did.returned did.asked did.paused;
        stage = c.after_event-self-inside.ensures c.go-event.new.self c.result.ensures;
      };
      within = rises _ calls _ _ _ _ c.args.units c.go-event.result did.returned did.asked did.paused;
      progress = progresses _ calls _ _ _ _ c.args.units c.go-event.result did.paused;
    }
