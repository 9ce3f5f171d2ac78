use Rattle.plugin_steps.proofs.Acting.{acts_are_a_life}
use Rattle.plugin_steps.proofs.laws.acts_are_a_life.Goals as goal

pub returns : goal.returns
returns g c = acts_are_a_life _ g.H.Host.calls _ g.S.InstanceMachine.stands
