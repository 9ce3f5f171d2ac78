use Rattle.plugin_core.proofs.Keeping.{lives_keep_moments}
use Rattle.plugin_core.proofs.laws.lives_keep_moments.Goals as goal

pub returns : goal.returns
returns g c = lives_keep_moments g.H.VolumeHost.disk g.H.VolumeHost.numbers g.H.VolumeHost.tree g.H.VolumeHost.honest g.H.Host.calls
