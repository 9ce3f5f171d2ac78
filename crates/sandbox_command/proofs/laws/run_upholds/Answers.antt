use Rattle.wasi_bodies.specs.host.Worlds.{hearing}
use Rattle.sandbox_telling.specs.RunHost.{counted_devices}
use Rattle.sandbox_telling.specs.Supplies.{terminals_of}
use Rattle.sandbox_command.proofs.Upheld.{upheld}
use Rattle.sandbox_command.proofs.laws.run_upholds.Goals as goal

pub returns : goal.returns
returns g c = λ m run parts left ran is lasts.
    upheld g.M.SnapshotMeaning.stands (counted_devices g.D.Device.honest g.D.Device.disk g.D.Device.size g.D.Device.failures g.D.Device.goes_on g.R.Read.remaining g.W1.Write.contents g.W2.Write.contents (hearing g.R.Inlet.gave g.R.Inlet.refused g.W1.Outlet.took g.W1.Outlet.refused g.W2.Outlet.took g.W2.Outlet.refused))
    c.headline_opened.ensures c.turns_are_safe.ensures m _ ran.session ran.last ran.resumes run.seed (terminals_of run)
    ran.opens ran.shares is lasts ran.follow
