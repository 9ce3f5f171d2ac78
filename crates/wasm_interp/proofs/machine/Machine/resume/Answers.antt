use Rattle.std.proofs.Common.{◌∙◌, subst, sym}
use Rattle.wasm_interp.specs.Machine.{Snapshot}
use Rattle.wasm_interp.specs.Promise.{Resumed}
use Rattle.wasm_interp.specs.internal.Running.{snapshot_of}
use Rattle.wasm_interp.proofs.Making.{machine_made, snapshot_made}
use Rattle.wasm_interp.proofs.PlainSteps.Snapshots.{resumed_of}
use Rattle.wasm_interp.proofs.machine.Machine.resume.Goals as goal

pub invariant_of-self : goal.invariant_of-self
invariant_of-self g c = machine_made c.self.inside.prepared c.resume_making.new.guest c.self.inside.state c.resume_making.new.self c.resume_making.ensures.made c.self.invariant c.resume_making.ensures.live (c.resume_making.ensures.pauses.invoked ∙ c.self.invariant.command) (λ a e. absurd (c.resume_making.ensures.pauses.unasked a e))

pub returns : goal.returns
returns g c =
    let k = c.resume_making.ensures in
    rw (← c.self.view_is)
    (subst (λ (z : Snapshot). Resumed _ g.H.Host.calls c.args.host.now c.resume_making.new.host (snapshot_of c.self.inside.prepared c.self.inside.state) z c.args.units c.resume_making.result) (sym (snapshot_made c.self.inside.prepared c.resume_making.new.guest c.resume_making.new.self k.made))
    (resumed_of _ g.H.Host.calls c.self.inside.prepared _ _ c.self.inside.state c.resume_making.new.self _ _ c.self.invariant.invocable k.live.room k.most k.rests k.pauses))
