use Rattle.wasi_bodies.specs.host.Worlds.{hearing}
use Rattle.sandbox_telling.specs.RunHost.{counted_devices}
use Rattle.sandbox_telling.specs.Supplies.{terminals_of}
use Rattle.sandbox_runs.proofs.Calling.{call_upheld}
use Rattle.sandbox_command.proofs.laws.call_upholds.Goals as goal

pub returns : goal.returns
returns g c = λ tells m words parts left ran is lasts.
    call_upheld g.M.SnapshotMeaning.stands (counted_devices g.D.Device.honest g.D.Device.disk g.D.Device.size g.D.Device.failures g.D.Device.goes_on g.R.Read.remaining g.W1.Write.contents g.W2.Write.contents (hearing g.R.Inlet.gave g.R.Inlet.refused g.W1.Outlet.took g.W1.Outlet.refused g.W2.Outlet.took g.W2.Outlet.refused))
    c.instance_headline.ensures c.turns_are_safe.ensures tells m _ ran.instance ran.last ran.acts words.seed (terminals_of words)
    ran.opens ran.shares is lasts ran.follow
