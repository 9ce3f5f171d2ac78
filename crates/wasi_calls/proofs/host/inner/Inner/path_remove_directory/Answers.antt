use Rattle.std.proofs.Common.{◌≡◌, ◌^◌, ℕ, List, ◌∙◌, refl, sym}
use Rattle.vol_inode.specs.declared.entry.Kind.TheVariants as nodes
use Rattle.wasm_store.specs.declared.call.HostCall.TheVariants as call
use Rattle.wasi_bodies.specs.World.{World}
use Rattle.wasi_bodies.specs.paths.Rows.{path_remove_directory}
use Rattle.wasi_bodies.specs.host.Worlds.{world_of, hearing}
use Rattle.wasi_calls.specs.internal.Bodies.{state_of}
use Rattle.wasi_paths.specs.internal.paths.Removing.{remove}
use Rattle.wasi_bodies.proofs.bodies.AskingCalls.{and_then_assoc, ok_then}
use Rattle.wasi_calls.proofs.calls.PlainCalls.{serves_volume}
use Rattle.wasi_calls.proofs.host.inner.Inner.path_remove_directory.Goals as goal

removes : (w : World) (m : List ℕ) (fd path len : ℕ) → path_remove_directory w m fd path len ≡ remove nodes.Directory w m fd (2 ^ 25) path len
removes w m fd path len = simp (and_then_assoc, ok_then)

pub returns : goal.returns
returns g c = λ used.
    let s = c.args.self.now in
    let m = c.args.memory.now in
    serves_volume g.D.Device.honest g.D.Device.disk g.D.Device.size g.D.Device.failures g.D.Device.goes_on g.R.Read.remaining g.W1.Write.contents g.W2.Write.contents (hearing g.R.Inlet.gave g.R.Inlet.refused g.W1.Outlet.took g.W1.Outlet.refused g.W2.Outlet.took g.W2.Outlet.refused)
    call.PathRemoveDirectory used c.args.arguments.now _ s c.remove.new.volume m _ _ refl c.remove.ensures.io c.requires.set_up c.remove.ensures.step
    (λ w. (λ i. path_remove_directory w m (sym c.descriptor-fd.ensures i) (sym c.word-path.ensures i) (sym c.word-len.ensures i)) ∙ removes w m _ _ _)
    (λ h b. c.remove.ensures.answered h (world_of (state_of s) b) refl refl)
