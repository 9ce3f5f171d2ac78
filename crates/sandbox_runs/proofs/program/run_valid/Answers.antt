use Rattle.std.proofs.Common.{refl, sym, ap, subst, ◌∙◌}
use Rattle.vol_commands.specs.Volumes.{IsOpenFor, IsRefusedFor}
use Rattle.wasm_syntax.specs.declared.module.Module.{Module}
use Rattle.wasi_bodies.specs.host.Worlds.{hearing}
use Rattle.sandbox_core.specs.Session.{given}
use Rattle.sandbox_runs.specs.Running.{Launches}
use Rattle.sandbox_telling.specs.declared.runnable.Runnable.{Runnable}
use Rattle.sandbox_telling.specs.internal.Runnable.{IsReadyFor, module_in}
use Rattle.sandbox_runs.proofs.Charged.{none_tells}
use Rattle.sandbox_runs.proofs.Launching.{no_volume, on_volume}
use Rattle.sandbox_runs.proofs.program.run_valid.Goals as goal

-- the volume is refused
pub returns-in-Err-clause-runs : goal.returns-in-Err-clause-runs
returns-in-Err-clause-runs g c =
    let ended = c.no_volume.ensures in
    no_volume g.D.Device g.R.Read.remaining g.W1.Write.contents g.W2.Write.contents (hearing g.R.Inlet.gave g.R.Inlet.refused g.W1.Outlet.took g.W1.Outlet.refused g.W2.Outlet.took g.W2.Outlet.refused) c.args.run.now (module_in c.args.runnable) c.args.random.now
    c.args.device c.args.streams.input c.args.streams.out c.args.streams.err c.in-Err.refused c.no_volume.result
    (subst (λ file. IsRefusedFor g.D.Device.honest g.D.Device.disk g.D.Device.size g.D.Device.failures file c.args.device c.in-Err.refused) c.volume_of.ensures c.in-Err.ensures.refused)
    ended.ends ended.flushed ended.summary ended.device ended.input ended.out ended.err

-- the module was launched
pub returns-in-Prepared-clause-runs : goal.returns-in-Prepared-clause-runs
returns-in-Prepared-clause-runs g c =
    let its = given c.parts_of-parts.result.settings c.in-Ok.volume c.args.streams.input c.args.streams.out c.args.streams.err in
    on_volume g.D.Device g.R.Read.remaining g.W1.Write.contents g.W2.Write.contents (hearing g.R.Inlet.gave g.R.Inlet.refused g.W1.Outlet.took g.W1.Outlet.refused g.W2.Outlet.took g.W2.Outlet.refused) c.args.run.now (module_in c.args.runnable) c.args.random.now
    c.args.device c.args.streams.input c.args.streams.out c.args.streams.err c.in-Ok.volume its c.launch_prepared-left.result
    (subst (λ named. IsOpenFor g.D.Device.honest g.D.Device.disk g.D.Device.size g.D.Device.failures named c.args.device c.in-Ok.volume) c.volume_of.ensures c.in-Ok.ensures.opens)
    c.parts_of-parts.ensures.settings refl
    (subst (λ (m : Module). Launches g.D.Device.honest g.D.Device.disk g.D.Device.size g.D.Device.failures g.D.Device.goes_on g.R.Read.remaining g.W1.Write.contents g.W2.Write.contents (hearing g.R.Inlet.gave g.R.Inlet.refused g.W1.Outlet.took g.W1.Outlet.refused g.W2.Outlet.took g.W2.Outlet.refused) m c.args.run.now its c.launch_prepared-left.result)
    (sym (ap module_in c.in-Prepared.is)) (c.launch_prepared-left.ensures.launches its c.parts_of-parts.ensures.parts))

pub returns-in-Bare-clause-runs : goal.returns-in-Bare-clause-runs
returns-in-Bare-clause-runs g c =
    let its = given c.parts_of-parts.result.settings c.in-Ok.volume c.args.streams.input c.args.streams.out c.args.streams.err in
    let left = c.launch_bare-valid.result.1 in
    on_volume g.D.Device g.R.Read.remaining g.W1.Write.contents g.W2.Write.contents (hearing g.R.Inlet.gave g.R.Inlet.refused g.W1.Outlet.took g.W1.Outlet.refused g.W2.Outlet.took g.W2.Outlet.refused) c.args.run.now (module_in c.args.runnable) c.args.random.now
    c.args.device c.args.streams.input c.args.streams.out c.args.streams.err c.in-Ok.volume its left
    (subst (λ named. IsOpenFor g.D.Device.honest g.D.Device.disk g.D.Device.size g.D.Device.failures named c.args.device c.in-Ok.volume) c.volume_of.ensures c.in-Ok.ensures.opens)
    c.parts_of-parts.ensures.settings refl
    (subst (λ (m : Module). Launches g.D.Device.honest g.D.Device.disk g.D.Device.size g.D.Device.failures g.D.Device.goes_on g.R.Read.remaining g.W1.Write.contents g.W2.Write.contents (hearing g.R.Inlet.gave g.R.Inlet.refused g.W1.Outlet.took g.W1.Outlet.refused g.W2.Outlet.took g.W2.Outlet.refused) m c.args.run.now its left)
    (sym (ap module_in c.in-Bare.is)) (c.launch_bare-valid.ensures.launches its c.parts_of-parts.ensures.parts))

pub returns-in-Err-clause-fuel_use : goal.returns-in-Err-clause-fuel_use
returns-in-Err-clause-fuel_use g c = none_tells c.args.stacks _ c.no_volume.ensures.stopped

-- its settings have the pages of the words
pub launch_prepared-left-requires-clause-pages : goal.launch_prepared-left-requires-clause-pages
launch_prepared-left-requires-clause-pages g c =
    c.parts_of-parts.ensures.settings.pages ∙ sym (subst (λ (r : Runnable). IsReadyFor c.args.run.now.limits.pages r) c.in-Prepared.is c.requires.ready)
