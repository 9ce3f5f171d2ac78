use Rattle.sandbox_core.specs.Devices.{devices}
use Rattle.plugin_session.proofs.Headline.{headline}
use Rattle.plugin_session.proofs.laws.instance_headline.Goals as goal

pub returns : goal.returns
returns g c = headline g.M.SnapshotMeaning.stands (devices g.D.Device g.R.Read g.W1.Write g.W2.Write g.R.Inlet.gave g.R.Inlet.refused g.W1.Outlet.took g.W1.Outlet.refused g.W2.Outlet.took g.W2.Outlet.refused) (λ d t image h. g.met.D.Device.counts_now d t image h) (λ d image h. g.met.D.Device.only_now d image h)
