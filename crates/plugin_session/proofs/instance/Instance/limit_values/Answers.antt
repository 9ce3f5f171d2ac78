use Rattle.std.proofs.Common.{ap}
use Rattle.wasm_interp.specs.Machine.{Snapshot}
use Rattle.plugin_session.proofs.instance.Instance.limit_values.Goals as goal

pub returns : goal.returns
returns g c = rw (← c.self.view_is) (ap (λ (m : Snapshot). record { machine = m; host = c.self.inside.host; stage = c.self.inside.stage }) c.limit_values.ensures)
