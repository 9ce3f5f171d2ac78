use Rattle.sandbox_core.specs.Devices.{Calls}
use Rattle.deferred_calls.specs.Machines.{StandsForWhole}
use Rattle.deferred_calls.proofs.Machines.{machines_defer}
use Rattle.fed_session.specs.Waiting.{deferred_at}
use Rattle.fed_session.specs.Feeding.{around, fed_devices}
use Rattle.fed_session.proofs.Wholes.{fed_headline}
use Rattle.fed_session.proofs.laws.fed_headline.Goals as goal

pub returns : goal.returns
returns g c = λ tells goes_on.
    let a = around g.D.Device g.W1.Write g.W2.Write g.W1.Outlet.took g.W1.Outlet.refused g.W2.Outlet.took g.W2.Outlet.refused in
    let stands = g.M.SnapshotMeaning.stands in
    fed_headline a (StandsForWhole (deferred_at goes_on) stands) (λ d t image h. g.met.D.Device.counts_now d t image h) (λ d image h. g.met.D.Device.only_now d image h)
    ((machines_defer (deferred_at goes_on) stands _ (Calls (fed_devices a))).tells tells)
