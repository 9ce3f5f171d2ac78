use Rattle.std.proofs.Common.{refl, sym}
use Rattle.wasm_store.specs.declared.call.HostCall.TheVariants as call
use Rattle.wasi_bodies.specs.host.Worlds.{world_of, hearing}
use Rattle.wasi_calls.specs.internal.Bodies.{state_of}
use Rattle.wasi_calls.proofs.calls.PlainCalls.{serves_plain}
use Rattle.wasi_bodies.specs.descriptors.Rows.{fd_close}
use Rattle.wasi_calls.proofs.host.inner.Inner.fd_close.Goals as goal

pub returns : goal.returns
returns g c = λ m used.
    let s = c.args.self.now in
    serves_plain g.D.Device.honest g.D.Device.disk g.D.Device.size g.D.Device.failures g.D.Device.goes_on g.R.Read.remaining g.W1.Write.contents g.W2.Write.contents (hearing g.R.Inlet.gave g.R.Inlet.refused g.W1.Outlet.took g.W1.Outlet.refused g.W2.Outlet.took g.W2.Outlet.refused)
    call.FdClose used c.args.arguments.now _ s c.fd_close.new.descriptors s.settings m _ _ (λ o. refl) c.requires c.requires.settings refl c.fd_close.ensures.entries
    (λ b i. fd_close (world_of (state_of s) b) (sym c.descriptor.ensures i))
    (λ b. c.fd_close.ensures.answers (world_of (state_of s) b) m refl)
