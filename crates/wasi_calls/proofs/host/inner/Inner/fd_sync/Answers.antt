use Rattle.std.proofs.Common.{◌^◌, refl, sym}
use Rattle.wasm_store.specs.declared.call.HostCall.TheVariants as call
use Rattle.wasi_bodies.specs.files.Rows.{fd_sync}
use Rattle.wasi_bodies.specs.host.Worlds.{world_of, hearing}
use Rattle.wasi_calls.specs.internal.Bodies.{state_of}
use Rattle.wasi_calls.proofs.calls.PlainCalls.{serves_volume}
use Rattle.wasi_calls.proofs.host.inner.Inner.fd_sync.Goals as goal

pub returns-clause-serves : goal.returns-clause-serves
returns-clause-serves g c = λ m used.
    let s = c.args.self.now in
    serves_volume g.D.Device.honest g.D.Device.disk g.D.Device.size g.D.Device.failures g.D.Device.goes_on g.R.Read.remaining g.W1.Write.contents g.W2.Write.contents (hearing g.R.Inlet.gave g.R.Inlet.refused g.W1.Outlet.took g.W1.Outlet.refused g.W2.Outlet.took g.W2.Outlet.refused)
    call.FdSync used c.args.arguments.now _ s c.sync.new.volume m m _ refl c.sync.ensures.io c.requires c.sync.ensures.step
    (λ w i. fd_sync w (sym c.descriptor-fd.ensures i) (2 ^ 4))
    (λ h b. c.sync.ensures.answered h (world_of (state_of s) b) m refl refl)

pub returns-clause-durable : goal.returns-clause-durable
returns-clause-durable g c = c.sync.ensures.durable
