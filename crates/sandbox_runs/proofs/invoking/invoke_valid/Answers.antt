use Rattle.std.proofs.Common.{refl, subst, sym}
use Rattle.sandbox_core.specs.Session.{given}
use Rattle.sandbox_telling.specs.Stopping.{AreLinesBy}
use Rattle.vol_commands.specs.Volumes.{IsOpenFor, IsRefusedFor}
use Rattle.wasi_bodies.specs.host.Worlds.{hearing}
use Rattle.sandbox_runs.proofs.Charged.{none_tells}
use Rattle.sandbox_runs.proofs.Calling.{call_no_volume, call_on_volume}
use Rattle.sandbox_runs.proofs.invoking.invoke_valid.Goals as goal

-- the function was called, or not, on the open volume
pub returns-in-Ok-clause-invokes : goal.returns-in-Ok-clause-invokes
returns-in-Ok-clause-invokes g c =
    let its = given c.parts_of-parts.result.settings c.in-Ok.volume c.args.streams.input c.args.streams.out c.args.streams.err in
    call_on_volume g.D.Device g.R.Read.remaining g.W1.Write.contents g.W2.Write.contents (hearing g.R.Inlet.gave g.R.Inlet.refused g.W1.Outlet.took g.W1.Outlet.refused g.W2.Outlet.took g.W2.Outlet.refused) c.args.run.now c.args.name.now c.args.valid c.args.random.now
    c.args.device c.args.streams.input c.args.streams.out c.args.streams.err c.in-Ok.volume its c.launch_call.result.0
    (subst (λ named. IsOpenFor g.D.Device.honest g.D.Device.disk g.D.Device.size g.D.Device.failures named c.args.device c.in-Ok.volume) c.volume_of.ensures c.in-Ok.ensures.opens)
    c.parts_of-parts.ensures.settings refl (c.launch_call.ensures.launches its c.parts_of-parts.ensures.parts)

-- the volume is refused
pub returns-in-Err-clause-invokes : goal.returns-in-Err-clause-invokes
returns-in-Err-clause-invokes g c =
    let ended = c.no_volume.ensures in
    call_no_volume g.D.Device g.R.Read.remaining g.W1.Write.contents g.W2.Write.contents (hearing g.R.Inlet.gave g.R.Inlet.refused g.W1.Outlet.took g.W1.Outlet.refused g.W2.Outlet.took g.W2.Outlet.refused) c.args.run.now c.args.name.now c.args.valid c.args.random.now
    c.args.device c.args.streams.input c.args.streams.out c.args.streams.err c.in-Err.refused c.no_volume.result
    (subst (λ file. IsRefusedFor g.D.Device.honest g.D.Device.disk g.D.Device.size g.D.Device.failures file c.args.device c.in-Err.refused) c.volume_of.ensures c.in-Err.ensures.refused)
    ended.ends ended.flushed ended.summary ended.device ended.input ended.out ended.err

pub returns-in-Err-clause-fuel_use : goal.returns-in-Err-clause-fuel_use
returns-in-Err-clause-fuel_use g c = none_tells c.args.stacks _ c.no_volume.ensures.stopped

pub returns-in-Err-clause-lines : goal.returns-in-Err-clause-lines
returns-in-Err-clause-lines g c = subst (λ s. AreLinesBy c.args.bytes.now c.args.valid c.args.run.now.frames s c.no_lines.result.items) (sym c.no_volume.ensures.stopped) c.no_lines.ensures
