use Rattle.std.proofs.Common.{◌∙◌}
use Rattle.plugin_session.proofs.Granting.{settled}
use Rattle.plugin_session.proofs.instance.Instance.go_to.Goals as goal

pub returns : goal.returns
returns g c =
    let did = c.go-event.ensures in
    record {
      went = rw (← c.self.view_is) record {
        may = c.in_ok-may_go.ensures.may;
        returned = did.returned;
        asked = did.asked;
        paused = did.paused;
        stage = c.after_event-self-inside.ensures c.go-event.new.self c.result.ensures ∙ settled c.go-event.result c.self.inside.stage c.go-event.new.self c.in_default.not-Asked;
      };
      refused = tt;
    }
