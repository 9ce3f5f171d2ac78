use Rattle.std.proofs.Common.{Err, refl}
use Rattle.wasi_fd.specs.Table.{table_of}
use Rattle.wasm_store.specs.declared.call.HostCall.TheVariants as call
use Rattle.wasi_bodies.proofs.bodies.Resting.{no_more}
use Rattle.wasi_calls.proofs.calls.PlainCalls.{serves_plain}
use Rattle.wasi_bodies.specs.host.Worlds.{hearing}
use Rattle.wasi_calls.proofs.host.inner.Inner.nosys.Goals as goal

pub returns : goal.returns
returns g c = λ m used arguments.
    let s = c.args.self.now in
    serves_plain g.D.Device.honest g.D.Device.disk g.D.Device.size g.D.Device.failures g.D.Device.goes_on g.R.Read.remaining g.W1.Write.contents g.W2.Write.contents (hearing g.R.Inlet.gave g.R.Inlet.refused g.W1.Outlet.took g.W1.Outlet.refused g.W2.Outlet.took g.W2.Outlet.refused)
    call.Nosys used arguments (λ b. Err 52) s s.descriptors s.settings m m 52 (λ o. refl) c.requires c.requires.settings refl (no_more (table_of s.descriptors))
    (λ b. refl) (λ b. (refl, refl, refl))
