use Rattle.std.proofs.Common.{refl, sym}
use Rattle.wasm_store.specs.declared.call.HostCall.TheVariants as call
use Rattle.wasi_bodies.specs.host.Worlds.{world_of, hearing}
use Rattle.wasi_calls.specs.internal.Bodies.{state_of}
use Rattle.wasi_calls.proofs.calls.PlainCalls.{serves_volume}
use Rattle.wasi_paths.proofs.paths.RenameWalks.{rename_by}
use Rattle.wasi_calls.proofs.host.inner.Inner.path_rename.Goals as goal

pub returns : goal.returns
returns g c = λ used.
    let s = c.args.self.now in
    let m = c.args.memory.now in
    serves_volume g.D.Device.honest g.D.Device.disk g.D.Device.size g.D.Device.failures g.D.Device.goes_on g.R.Read.remaining g.W1.Write.contents g.W2.Write.contents (hearing g.R.Inlet.gave g.R.Inlet.refused g.W1.Outlet.took g.W1.Outlet.refused g.W2.Outlet.took g.W2.Outlet.refused)
    call.PathRename used c.args.arguments.now _ s c.path_rename.new.volume m _ _ refl c.path_rename.ensures.io c.requires.set_up c.path_rename.ensures.step
    (λ w i. rename_by w m (sym c.read-asked.ensures i))
    (λ h b. c.path_rename.ensures.answered h (world_of (state_of s) b) refl refl)
