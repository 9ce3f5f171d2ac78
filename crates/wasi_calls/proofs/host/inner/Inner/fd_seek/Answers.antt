use Rattle.std.proofs.Common.{refl, sym, ◌∙◌, ◌&&◌, nat_lt}
use Rattle.wasi_fd.specs.Table.{table_of}
use Rattle.wasi_bodies.specs.Calls.{is_entry}
use Rattle.wasm_store.specs.declared.call.HostCall.TheVariants as call
use Rattle.wasi_bodies.specs.descriptors.Rows.{fd_seek}
use Rattle.wasi_bodies.specs.host.Worlds.{world_of, hearing}
use Rattle.wasi_calls.specs.internal.Bodies.{state_of}
use Rattle.wasi_calls.proofs.calls.MovingCalls.{serves_moved}
use Rattle.wasi_calls.proofs.host.inner.Inner.fd_seek.Goals as goal

pub returns : goal.returns
returns g c = λ used.
    let s = c.args.self.now in
    let m = c.args.memory.now in
    serves_moved g.D.Device.honest g.D.Device.disk g.D.Device.size g.D.Device.failures g.D.Device.goes_on g.R.Read.remaining g.W1.Write.contents g.W2.Write.contents (hearing g.R.Inlet.gave g.R.Inlet.refused g.W1.Outlet.took g.W1.Outlet.refused g.W2.Outlet.took g.W2.Outlet.refused)
    call.FdSeek used c.args.arguments.now _ s c.fd_seek.new.volume c.fd_seek.new.descriptors m _ _ c.fd_seek.ensures.io c.requires.set_up c.fd_seek.ensures.step c.fd_seek.ensures.entries
    (λ w i. fd_seek w m (sym c.descriptor-fd.ensures i) (sym c.long-delta.ensures i) (sym c.word-whence.ensures i) (sym c.word-result_at.ensures i))
    (λ known b. c.fd_seek.ensures.answered (λ is. known (sym (λ i. is_entry (table_of s.descriptors (c.descriptor-fd.ensures i)) && nat_lt 1 (c.word-whence.ensures i)) ∙ is)) (world_of (state_of s) b) refl refl)
