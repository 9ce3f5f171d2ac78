use Rattle.wasi_bodies.specs.host.Worlds.{HostCalls, hearing}
use Rattle.wasi_calls.proofs.runs.StreamsKeep.{runs_hear}
use Rattle.wasi_calls.proofs.laws.streams_are_heard.Goals as goal

pub returns : goal.returns
returns g c =
    let ear = hearing g.R.Inlet.gave g.R.Inlet.refused g.W1.Outlet.took g.W1.Outlet.refused g.W2.Outlet.took g.W2.Outlet.refused in
    runs_hear ear (HostCalls g.D.Device.honest g.D.Device.disk g.D.Device.size g.D.Device.failures g.D.Device.goes_on g.R.Read.remaining g.W1.Write.contents g.W2.Write.contents ear)
    (λ h m used x args h' m' answer call. call.heard)
