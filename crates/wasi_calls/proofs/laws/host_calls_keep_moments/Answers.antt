use Rattle.wasi_calls.proofs.runs.HostLaws.{keep_moments}
use Rattle.wasi_bodies.specs.host.Worlds.{hearing}
use Rattle.wasi_calls.proofs.laws.host_calls_keep_moments.Goals as goal

pub returns : goal.returns
returns g c = keep_moments g.D.Device.honest g.D.Device.disk g.D.Device.size g.D.Device.failures g.D.Device.goes_on g.R.Read.remaining g.W1.Write.contents g.W2.Write.contents (hearing g.R.Inlet.gave g.R.Inlet.refused g.W1.Outlet.took g.W1.Outlet.refused g.W2.Outlet.took g.W2.Outlet.refused)
    (λ d t image h. g.met.D.Device.counts_now d t image h) (λ d image h. g.met.D.Device.only_now d image h)
