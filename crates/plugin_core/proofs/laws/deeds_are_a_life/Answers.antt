use Rattle.plugin_core.proofs.Deeds.{deeds_are_a_life}
use Rattle.plugin_core.proofs.laws.deeds_are_a_life.Goals as goal

pub returns : goal.returns
returns g c = deeds_are_a_life _ g.H.Host.calls _ g.S.InstanceMachine.stands
