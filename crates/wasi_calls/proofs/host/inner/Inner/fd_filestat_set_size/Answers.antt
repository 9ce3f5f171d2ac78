use Rattle.std.proofs.Common.{refl, sym}
use Rattle.wasm_store.specs.declared.call.HostCall.TheVariants as call
use Rattle.wasi_bodies.specs.files.Rows.{fd_filestat_set_size}
use Rattle.wasi_bodies.specs.host.Worlds.{world_of, hearing}
use Rattle.wasi_calls.specs.internal.Bodies.{state_of}
use Rattle.wasi_calls.proofs.calls.PlainCalls.{serves_volume}
use Rattle.wasi_calls.proofs.host.inner.Inner.fd_filestat_set_size.Goals as goal

pub returns : goal.returns
returns g c = λ m used.
    let s = c.args.self.now in
    serves_volume g.D.Device.honest g.D.Device.disk g.D.Device.size g.D.Device.failures g.D.Device.goes_on g.R.Read.remaining g.W1.Write.contents g.W2.Write.contents (hearing g.R.Inlet.gave g.R.Inlet.refused g.W1.Outlet.took g.W1.Outlet.refused g.W2.Outlet.took g.W2.Outlet.refused)
    call.FdFilestatSetSize used c.args.arguments.now _ s c.set_size.new.volume m m _ refl c.set_size.ensures.io c.requires.set_up c.set_size.ensures.step
    (λ w i. fd_filestat_set_size w (sym c.descriptor-fd.ensures i) (sym c.long-size.ensures i))
    (λ h b. c.set_size.ensures.answered h (world_of (state_of s) b) m refl refl)
