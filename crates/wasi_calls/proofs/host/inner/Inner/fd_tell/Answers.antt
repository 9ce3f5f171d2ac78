use Rattle.std.proofs.Common.{refl, sym}
use Rattle.wasi_fd.specs.Table.{table_of}
use Rattle.wasm_store.specs.declared.call.HostCall.TheVariants as call
use Rattle.wasi_bodies.specs.host.Worlds.{world_of, hearing}
use Rattle.wasi_calls.specs.internal.Bodies.{state_of}
use Rattle.wasi_bodies.specs.descriptors.Rows.{fd_tell}
use Rattle.wasi_bodies.proofs.bodies.Resting.{no_more}
use Rattle.wasi_calls.proofs.calls.PlainCalls.{serves_plain}
use Rattle.wasi_calls.proofs.host.inner.Inner.fd_tell.Goals as goal

pub returns : goal.returns
returns g c = λ used.
    let s = c.args.self.now in
    let m = c.args.memory.now in
    serves_plain g.D.Device.honest g.D.Device.disk g.D.Device.size g.D.Device.failures g.D.Device.goes_on g.R.Read.remaining g.W1.Write.contents g.W2.Write.contents (hearing g.R.Inlet.gave g.R.Inlet.refused g.W1.Outlet.took g.W1.Outlet.refused g.W2.Outlet.took g.W2.Outlet.refused)
    call.FdTell used c.args.arguments.now _ s s.descriptors s.settings m _ _ (λ o. refl) c.requires c.requires.settings refl (no_more (table_of s.descriptors))
    (λ b i. fd_tell (world_of (state_of s) b) m (sym c.descriptor-fd.ensures i) (sym c.word-result_at.ensures i))
    (λ b. c.fd_tell.ensures (world_of (state_of s) b) refl)
