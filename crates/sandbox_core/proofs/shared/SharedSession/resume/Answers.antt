use Rattle.wasi_bodies.specs.host.Worlds.{HostState, HostCalls, hearing}
use Rattle.wasi_calls.proofs.runs.HostLaws.{keep_moments}
use Rattle.wasi_calls.proofs.runs.Moments.{pauses_keep}
use Rattle.sandbox_core.specs.Devices.{devices}
use Rattle.sandbox_core.proofs.Places.{stays_there}
use Rattle.sandbox_core.proofs.shared.SharedSession.resume.Goals as goal

-- a resume answers at most one call, and nothing else changes the host
pub returns : goal.returns
returns g c =
    let keeps = keep_moments g.D.Device.honest g.D.Device.disk g.D.Device.size g.D.Device.failures g.D.Device.goes_on g.R.Read.remaining g.W1.Write.contents g.W2.Write.contents (hearing g.R.Inlet.gave g.R.Inlet.refused g.W1.Outlet.took g.W1.Outlet.refused g.W2.Outlet.took g.W2.Outlet.refused)
    (λ d t image h. g.met.D.Device.counts_now d t image h) (λ d image h. g.met.D.Device.only_now d image h) in
    let run = c.resume.ensures.run c.self.invariant.instance c.self.invariant.configuration c.self.invariant.stands in
    let kept = pauses_keep (λ (h : HostState _ _ _ _). g.D.Device.disk h.volume.device) (λ h. h.volume.numbers) (λ h. h.volume.tree) (λ h. g.D.Device.honest h.volume.device)
    (HostCalls g.D.Device.honest g.D.Device.disk g.D.Device.size g.D.Device.failures g.D.Device.goes_on g.R.Read.remaining g.W1.Write.contents g.W2.Write.contents (hearing g.R.Inlet.gave g.R.Inlet.refused g.W1.Outlet.took g.W1.Outlet.refused g.W2.Outlet.took g.W2.Outlet.refused))
    _ _ _ c.self.invariant.instance c.self.invariant.configuration run.0 keeps run.2 in
    let place = stays_there (devices g.D.Device g.R.Read g.W1.Write g.W2.Write g.R.Inlet.gave g.R.Inlet.refused g.W1.Outlet.took g.W1.Outlet.refused g.W2.Outlet.took g.W2.Outlet.refused)
    _ _ _ _ _ _ c.self.invariant.instance c.self.invariant.configuration c.self.invariant.stands c.resume.ensures in
    rw (← c.self.view_is) record {
      run = c.resume.ensures;
      numbers = place.0;
      size = place.1;
      goes = place.2;
      heard = place.3;
      honest_after = λ is. (kept is).2;
      crash = λ is. (kept is).0;
      synced = λ is. (kept is).1;
    }
