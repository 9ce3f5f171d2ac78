use Rattle.wasi_calls.proofs.host.HostAnswers.{called, ends, still_ready}
use Rattle.wasi_bodies.specs.host.Worlds.{hearing}
use Rattle.wasi_calls.proofs.host.wasi_host.WasiHostHost.call.Goals as goal

pub returns-in-ProcExit : goal.returns-in-ProcExit
returns-in-ProcExit g c = rw c.in-ProcExit.is rw (← c.self.view_is)
    (ends g.D.Device.honest g.D.Device.disk g.D.Device.size g.D.Device.failures g.D.Device.goes_on g.R.Read.remaining g.W1.Write.contents g.W2.Write.contents (hearing g.R.Inlet.gave g.R.Inlet.refused g.W1.Outlet.took g.W1.Outlet.refused g.W2.Outlet.took g.W2.Outlet.refused) c.self.inside.inner c.args.memory.now c.args.used c.args.arguments.now c.word.result c.self.invariant.set_up c.word.ensures)

pub invariant_of-self : goal.invariant_of-self
invariant_of-self g c = still_ready g.D.Device.honest g.D.Device.disk g.D.Device.size g.D.Device.failures g.D.Device.goes_on g.R.Read.remaining g.W1.Write.contents g.W2.Write.contents (hearing g.R.Inlet.gave g.R.Inlet.refused g.W1.Outlet.took g.W1.Outlet.refused g.W2.Outlet.took g.W2.Outlet.refused)
    c.args.call c.self.inside.inner c.answer.new.self c.args.memory.now c.answer.new.memory c.args.used c.args.arguments.now _ c.is_a_tree.ensures.tree c.self.invariant.known c.answer.ensures.serves

pub returns : goal.returns
returns g c = rw (← c.self.view_is)
    (called g.D.Device.honest g.D.Device.disk g.D.Device.size g.D.Device.failures g.D.Device.goes_on g.R.Read.remaining g.W1.Write.contents g.W2.Write.contents (hearing g.R.Inlet.gave g.R.Inlet.refused g.W1.Outlet.took g.W1.Outlet.refused g.W2.Outlet.took g.W2.Outlet.refused) c.args.call c.self.inside.inner c.answer.new.self c.args.memory.now c.answer.new.memory c.args.used c.args.arguments.now _ _ c.in_default.not-ProcExit c.value_of.ensures
    c.answer.ensures.serves c.answer.ensures.synced)
