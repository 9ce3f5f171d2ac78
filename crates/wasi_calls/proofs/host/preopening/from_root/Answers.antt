use Rattle.std.proofs.Common.{◌≡◌, ◌⊎◌, ℕ, None, Err, inl, inr, sym, subst, Bool}
use Rattle.vol_tree.specs.declared.errno.Errno.TheVariants as errno
use Rattle.wasi_calls.specs.declared.host.fault.HostFault.{HostFault}
use Rattle.wasi_calls.specs.host.Making.{from_root}
use Rattle.wasi_calls.specs.internal.host.Preopening.{FindsOrFails}
use Rattle.wasi_calls.proofs.host.Preopens.{root_refused, refused_none, asked_device, reads_then}
use Rattle.wasi_bodies.proofs.bodies.AskingCalls.{works_as, still_works}
use Rattle.path_walk.specs.declared.walking.Reached.{Reached}
use Rattle.wasi_calls.proofs.host.preopening.from_root.Goals as goal

pub returns-in-Err-clause-found : goal.returns-in-Err-clause-found
returns-in-Err-clause-found g c = λ h.
    let T = c.args.volume.now.tree in
    let rest = c.args.rest.now in
    let e = c.in-Err.errno in
    let why : (from_root T rest ≡ None) ⊎ (e ≡ errno.Io) = elim (c.in-Err.ensures.answer h) [
      | inl is ↦ inl (root_refused T rest e is)
      | inr io ↦ inr io
    ] in
    subst (λ (fault : HostFault). FindsOrFails {X = ℕ} (from_root T rest) (Err fault)) (sym c.fault_of.ensures) (refused_none (from_root T rest) e why)

pub returns-in-Err-clause-reads : goal.returns-in-Err-clause-reads
returns-in-Err-clause-reads g c = asked_device (Reached × Bool) ℕ g.D.Device.honest g.D.Device.disk g.D.Device.size g.D.Device.failures g.D.Device.goes_on c.args.volume.now c.walk_from_root.new.volume c.in-Err.errno c.fault_of.result c.fault_of.ensures c.in-Err.ensures.asked

pub returns-then-is_empty-clause-reads : goal.returns-then-is_empty-clause-reads
returns-then-is_empty-clause-reads g c = works_as g.D.Device.honest g.D.Device.disk g.D.Device.size g.D.Device.failures g.D.Device.goes_on c.args.volume.now c.args.volume.now (still_works g.D.Device.honest g.D.Device.disk g.D.Device.size g.D.Device.failures g.D.Device.goes_on c.args.volume.now c.requires)

pub returns-in-Ok-clause-reads : goal.returns-in-Ok-clause-reads
returns-in-Ok-clause-reads g c = reads_then g.D.Device.honest g.D.Device.disk g.D.Device.size g.D.Device.failures g.D.Device.goes_on c.args.volume.now c.walk_from_root.new.volume c.reached_directory.new.volume _ c.in-Ok.ensures.asked c.reached_directory.ensures.reads
