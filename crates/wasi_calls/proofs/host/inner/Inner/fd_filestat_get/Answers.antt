use Rattle.std.proofs.Common.{ℕ, refl, sym, ap, ◌∙◌}
use Rattle.wasi_fd.specs.Table.{table_of}
use Rattle.wasi_bodies.specs.Calls.{is_entry}
use Rattle.wasm_store.specs.declared.call.HostCall.TheVariants as call
use Rattle.wasi_bodies.specs.descriptors.Rows.{fd_filestat_get}
use Rattle.wasi_bodies.specs.host.Worlds.{world_of, hearing}
use Rattle.wasi_calls.specs.internal.Bodies.{state_of}
use Rattle.wasi_calls.proofs.calls.PlainCalls.{serves_reaching}
use Rattle.wasi_calls.proofs.host.inner.Inner.fd_filestat_get.Goals as goal

pub returns : goal.returns
returns g c = λ used.
    let s = c.args.self.now in
    let m = c.args.memory.now in
    serves_reaching g.D.Device.honest g.D.Device.disk g.D.Device.size g.D.Device.failures g.D.Device.goes_on g.R.Read.remaining g.W1.Write.contents g.W2.Write.contents (hearing g.R.Inlet.gave g.R.Inlet.refused g.W1.Outlet.took g.W1.Outlet.refused g.W2.Outlet.took g.W2.Outlet.refused)
    call.FdFilestatGet used c.args.arguments.now _ s c.filestat_get.new.volume m _ _ c.filestat_get.ensures.io c.requires.set_up c.filestat_get.ensures.step
    (λ w i. fd_filestat_get w m (sym c.descriptor-fd.ensures i) (sym c.word-result_at.ensures i))
    (λ known b. c.filestat_get.ensures.answered (λ is. known (sym (ap (λ (fd : ℕ). is_entry (table_of s.descriptors fd)) c.descriptor-fd.ensures) ∙ is)) (world_of (state_of s) b) refl refl refl)
