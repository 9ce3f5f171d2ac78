use Rattle.std.proofs.Common.{ap, subst, ◌∙◌, length}
use Rattle.wasi_bodies.specs.host.Worlds.{hearing}
use Rattle.sandbox_runs.proofs.Charged.{none_tells}
use Rattle.sandbox_runs.proofs.Calling.{call_tells, called, not_opened}
use Rattle.sandbox_runs.proofs.invoking.launch_instance.Goals as goal

-- its function was called
pub returns-in-Ok-clause-launches : goal.returns-in-Ok-clause-launches
returns-in-Ok-clause-launches g c = λ its same.
    called g.D.Device g.R.Read.remaining g.W1.Write.contents g.W2.Write.contents (hearing g.R.Inlet.gave g.R.Inlet.refused g.W1.Outlet.took g.W1.Outlet.refused g.W2.Outlet.took g.W2.Outlet.refused) c.args.run.now c.args.name.now c.args.plugin.now.valid its c.args.parts same
    c.instance_headline.ensures c.turns_are_safe.ensures c.own_meaning_tells_stores.ensures c.in-Ok.instance c.in-Ok.ensures.opens c.in-Ok.ensures.shares c.args.arguments.now.numbers.items c.args.arguments.now.value_type c.requires.arguments
    c.call_within.result c.call_within.ensures.called

-- there is no instance
pub returns-in-Err-clause-launches : goal.returns-in-Err-clause-launches
returns-in-Err-clause-launches g c = λ its same.
    let ended = c.no_session.ensures in
    not_opened g.D.Device g.R.Read.remaining g.W1.Write.contents g.W2.Write.contents (hearing g.R.Inlet.gave g.R.Inlet.refused g.W1.Outlet.took g.W1.Outlet.refused g.W2.Outlet.took g.W2.Outlet.refused) c.args.run.now c.args.name.now c.args.plugin.now.valid its c.args.parts same
    (record { valid = c.args.plugin.now.valid; parts = c.in-Err.field-0.parts; fault = c.in-Err.field-0.fault }) c.in-Err.ensures.hands_back c.in-Err.ensures.refused
    c.no_session.result ended.ends ended.flushed ended.summary ended.device ended.input ended.out ended.err

pub returns-in-Ok-clause-fuel_use : goal.returns-in-Ok-clause-fuel_use
returns-in-Ok-clause-fuel_use g c =
    let told = c.call_within.ensures.fuel_use in
    call_tells c.args.stacks c.imports_of-imported.result c.fuel_use_of-fuel_use.result _ told.0 told.1 told.2 c.fuel_use_of-fuel_use.ensures

pub returns-in-Err-clause-fuel_use : goal.returns-in-Err-clause-fuel_use
returns-in-Err-clause-fuel_use g c = none_tells c.args.stacks _ c.no_session.ensures.stopped
