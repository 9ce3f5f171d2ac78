use Rattle.wasi_calls.proofs.runs.Moments.{pauses_keep}
use Rattle.wasi_calls.proofs.laws.pauses.Goals as goal

pub returns : goal.returns
returns g c = pauses_keep g.H.VolumeHost.disk g.H.VolumeHost.numbers g.H.VolumeHost.tree g.H.VolumeHost.honest g.H.Host.calls
