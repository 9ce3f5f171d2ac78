use Rattle.std.proofs.Common.{◌∙◌, subst}
use Rattle.std.specs.Arc.{arc_value}
use Rattle.wasm_places.specs.declared.tables.Prepared.{Prepared}
use Rattle.wasm_interp.specs.internal.Running.{IsLive, Pauses}
use Rattle.wasm_interp.proofs.PlainSteps.Snapshots.{resumed_of}
use Rattle.wasm_interp.proofs.shared.SharedMachine.resume.Goals as goal

-- what `resume` says of the module that is lent is said of the shared one
pub invariant_of-self : goal.invariant_of-self
invariant_of-self g c = record {
  invocable = record { tables = c.self.invariant.invocable.tables; live = subst (λ (r : Prepared). IsLive r c.resume.new.self) c.deref.ensures c.resume.ensures.live; answers = λ a e. absurd (c.resume.ensures.pauses.unasked a e) };
  command = c.resume.ensures.pauses.invoked ∙ c.self.invariant.command;
  hosted = c.self.invariant.hosted;
}

pub returns : goal.returns
returns g c = rw (← c.self.view_is) (resumed_of _ g.H.Host.calls (arc_value c.self.inside.prepared) _ _ c.self.inside.state c.resume.new.self _ _ c.self.invariant.invocable c.resume.ensures.live.room c.resume.ensures.most c.resume.ensures.rests
    (subst (λ (r : Prepared). Pauses _ g.H.Host.calls r c.args.host.now c.resume.new.host c.self.inside.state c.resume.new.self c.args.units c.resume.result) c.deref.ensures c.resume.ensures.pauses))
