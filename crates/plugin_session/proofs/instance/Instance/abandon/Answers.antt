use Rattle.plugin_core.specs.Handling.{lets_go}
use Rattle.plugin_session.proofs.instance.Instance.abandon.Goals as goal

pub returns-clause-abandoned : goal.returns-clause-abandoned
returns-clause-abandoned g c = rw (← c.self.view_is) record { may = c.in_ok-may_abandon.ensures.may; handled = lets_go c.abandon.ensures; stage = c.after_letting_go-self-inside.ensures }
