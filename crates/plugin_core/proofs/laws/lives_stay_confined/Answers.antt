use Rattle.plugin_core.proofs.Confining.{lives_stay_confined}
use Rattle.plugin_core.proofs.laws.lives_stay_confined.Goals as goal

pub returns : goal.returns
returns g c = lives_stay_confined g.H.Host.calls g.H.VolumeHost.shows g.H.VolumeHost.honest
