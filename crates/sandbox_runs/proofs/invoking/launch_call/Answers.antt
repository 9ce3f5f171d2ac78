use Rattle.std.proofs.Common.{subst, sym, inl, ◌∙◌}
use Rattle.wasm_syntax.specs.declared.module.Module.{Module}
use Rattle.wasi_bodies.specs.host.Worlds.{hearing}
use Rattle.sandbox_args.specs.Request.{texts}
use Rattle.sandbox_core.specs.declared.fault.SessionFault.{SessionFault}
use Rattle.sandbox_core.specs.Session.{KeepsVolume}
use Rattle.sandbox_runs.specs.Invoking.{HasNoArguments, IsNotCalled, LaunchesCall}
use Rattle.sandbox_telling.specs.Stopping.{AreLinesBy}
use Rattle.sandbox_runs.proofs.Charged.{none_tells}
use Rattle.sandbox_runs.proofs.Calling.{no_instance, not_called, unasked, unmade}
use Rattle.sandbox_runs.proofs.invoking.launch_call.Goals as goal

-- the words don't write its arguments
pub returns-in-Err-clause-launches : goal.returns-in-Err-clause-launches
returns-in-Err-clause-launches g c = λ its same.
    let ended = c.no_session.ensures in
    let none = subst (λ (m : Module). HasNoArguments m c.args.name.now (texts c.args.run.now.words.items) c.in-Err.fault) c.«module».ensures.value c.in-Err.ensures in
    not_called g.D.Device g.R.Read.remaining g.W1.Write.contents g.W2.Write.contents (hearing g.R.Inlet.gave g.R.Inlet.refused g.W1.Outlet.took g.W1.Outlet.refused g.W2.Outlet.took g.W2.Outlet.refused) c.args.run.now c.args.name.now c.args.valid its c.args.parts same
    c.in-Err.fault (inl none) (unasked g.D.Device its.volume c.args.valid c.args.name.now (texts c.args.run.now.words.items) c.in-Err.fault none)
    c.no_session.result ended.ends ended.flushed ended.summary ended.device ended.input ended.out ended.err

pub returns-in-Err-clause-lines : goal.returns-in-Err-clause-lines
returns-in-Err-clause-lines g c = subst (λ s. AreLinesBy c.args.bytes.now c.args.valid c.args.run.now.frames s c.no_lines.result.items) (sym c.no_session.ensures.stopped) c.no_lines.ensures

pub returns-in-Err-clause-fuel_use : goal.returns-in-Err-clause-fuel_use
returns-in-Err-clause-fuel_use g c = none_tells c.args.stacks _ c.no_session.ensures.stopped

-- the module has no instance
pub returns-in-Err-new-clause-launches : goal.returns-in-Err-new-clause-launches
returns-in-Err-new-clause-launches g c = λ its same.
    let ended = c.no_session-in-Err-new.ensures in
    let f = c.in-Err-new.refused.fault in
    not_called g.D.Device g.R.Read.remaining g.W1.Write.contents g.W2.Write.contents (hearing g.R.Inlet.gave g.R.Inlet.refused g.W1.Outlet.took g.W1.Outlet.refused g.W2.Outlet.took g.W2.Outlet.refused) c.args.run.now c.args.name.now c.args.valid its c.args.parts same
    _ (subst (λ (s : SessionFault). IsNotCalled g.D.Device.honest g.D.Device.disk g.D.Device.size g.D.Device.failures g.D.Device.goes_on g.R.Read.remaining g.W1.Write.contents g.W2.Write.contents (hearing g.R.Inlet.gave g.R.Inlet.refused g.W1.Outlet.took g.W1.Outlet.refused g.W2.Outlet.took g.W2.Outlet.refused) s c.args.name.now c.args.valid c.args.run.now its) (sym c.of_instance-fault.ensures) (no_instance g.D.Device.honest g.D.Device.disk g.D.Device.size g.D.Device.failures g.D.Device.goes_on g.R.Read.remaining g.W1.Write.contents g.W2.Write.contents (hearing g.R.Inlet.gave g.R.Inlet.refused g.W1.Outlet.took g.W1.Outlet.refused g.W2.Outlet.took g.W2.Outlet.refused) c.args.run.now c.args.name.now c.args.valid its f c.in-Err-new.ensures.refused.1))
    (subst (λ (s : SessionFault). KeepsVolume g.D.Device s its.volume its.volume) (sym c.of_instance-fault.ensures) (unmade g.D.Device its.volume f))
    c.no_session-in-Err-new.result ended.ends ended.flushed ended.summary ended.device ended.input ended.out ended.err

-- it has one
pub returns-in-Ok-new-clause-launches : goal.returns-in-Ok-new-clause-launches
returns-in-Ok-new-clause-launches g c = λ its same.
    subst (λ (m : Module). LaunchesCall g.D.Device.honest g.D.Device.disk g.D.Device.size g.D.Device.failures g.D.Device.goes_on g.R.Read.remaining g.W1.Write.contents g.W2.Write.contents (hearing g.R.Inlet.gave g.R.Inlet.refused g.W1.Outlet.took g.W1.Outlet.refused g.W2.Outlet.took g.W2.Outlet.refused) c.args.name.now m c.args.run.now its c.launch_instance-left.result) c.in-Ok-new.ensures.module.0
    (c.launch_instance-left.ensures.launches its same)

pub returns-in-Ok-new-clause-lines : goal.returns-in-Ok-new-clause-lines
returns-in-Ok-new-clause-lines g c = subst (λ (m : Module). AreLinesBy c.args.bytes.now m c.args.run.now.frames c.launch_instance-left.result.stopped c.lines_of-lines.result.items)
    (c.module-in-Ok-new.ensures.value ∙ (c.module-guest.ensures ∙ c.in-Ok-new.ensures.module.0)) c.lines_of-lines.ensures
