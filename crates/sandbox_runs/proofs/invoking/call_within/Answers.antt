use Rattle.std.proofs.Common.{List, ◌∙◌, ap, subst}
use Rattle.wasm_interp.specs.declared.frames.Frame.{Frame}
use Rattle.wasi_bodies.specs.host.Worlds.{hearing}
use Rattle.plugin_session.specs.Instance.{used_by}
use Rattle.invoked_run.specs.Calling.{CallsOnceAndEnds}
use Rattle.sandbox_telling.specs.RunHost.{counted_devices}
use Rattle.sandbox_telling.specs.Supplies.{terminals_of}
use Rattle.sandbox_telling.proofs.Frames.{room_left}
use Rattle.sandbox_runs.specs.Invoking.{IsToldOfCall}
use Rattle.sandbox_runs.specs.internal.Invoking.{with_seed, with_terminals}
use Rattle.sandbox_runs.proofs.invoking.call_within.Goals as goal

pub seed-requires : goal.seed-requires
seed-requires g c = ap (λ s. s.host.generator) c.limit_values.ensures ∙ c.requires.begun.2

pub interact-requires : goal.interact-requires
interact-requires g c = ap (λ s. s.host.interactive) (c.seed.ensures ∙ ap (λ s. with_seed c.args.run.now.seed s) c.limit_values.ensures) ∙ c.requires.begun.3

pub call_once-called-requires-clause-unused : goal.call_once-called-requires-clause-unused
call_once-called-requires-clause-unused g c =
    ap (λ s. used_by s) (c.interact.ensures ∙ ap (λ s. with_terminals (terminals_of c.args.run.now) s) (c.seed.ensures ∙ ap (λ s. with_seed c.args.run.now.seed s) c.limit_values.ensures)) ∙ c.requires.begun.0

pub call_once-called-requires-clause-opening : goal.call_once-called-requires-clause-opening
call_once-called-requires-clause-opening g c =
    ap (λ s. s.stage) (c.interact.ensures ∙ ap (λ s. with_terminals (terminals_of c.args.run.now) s) (c.seed.ensures ∙ ap (λ s. with_seed c.args.run.now.seed s) c.limit_values.ensures)) ∙ c.requires.begun.1

-- what was told is of the room that the call wrote
pub returns-clause-called : goal.returns-clause-called
returns-clause-called g c =
    let ear = hearing g.R.Inlet.gave g.R.Inlet.refused g.W1.Outlet.took g.W1.Outlet.refused g.W2.Outlet.took g.W2.Outlet.refused in
    let on = counted_devices g.D.Device.honest g.D.Device.disk g.D.Device.size g.D.Device.failures g.D.Device.goes_on g.R.Read.remaining g.W1.Write.contents g.W2.Write.contents ear in
    let called = c.call_once-called in
    record {
      called = called.result;
      room = called.new.room;
      calls = subst (λ s. CallsOnceAndEnds on s c.args.name.now c.args.arguments.now.numbers.items c.args.run.now.limits.fuel called.new.room called.result)
          (c.interact.ensures ∙ ap (λ s. with_terminals (terminals_of c.args.run.now) s) (c.seed.ensures ∙ ap (λ s. with_seed c.args.run.now.seed s) c.limit_values.ensures))
          (subst (λ numbers. CallsOnceAndEnds on c.interact.new.instance c.args.name.now numbers c.args.run.now.limits.fuel called.new.room called.result) c.as_slice-numbers.ensures.value called.ensures);
      told = subst (λ (room : List Frame). IsToldOfCall g.D.Device.honest g.D.Device.disk g.D.Device.size g.D.Device.failures g.D.Device.goes_on g.R.Read.remaining g.W1.Write.contents g.W2.Write.contents ear c.args.arguments.now.value_type called.result room c.ended_call.result)
          (room_left c.room_for-room.result.len called.new.room _ (called.auto.room ∙ c.as_mut_slice.ensures.len)) c.ended_call.ensures.told;
    }
