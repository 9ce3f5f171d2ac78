use Rattle.plugin_core.proofs.Handling.{handling_is_a_life}
use Rattle.plugin_core.proofs.laws.handling_is_a_life.Goals as goal

pub returns : goal.returns
returns g c = handling_is_a_life g.M.SnapshotMeaning.stands _ g.H.Host.calls
