use Rattle.std.proofs.Common.{◌∙◌}
use Rattle.wasi_bodies.specs.host.Worlds.{hearing}
use Rattle.sandbox_runs.specs.Flushing.{BothAnswered}
use Rattle.sandbox_runs.proofs.Calling.{blamed_answers, blamed_left, told_of_call}
use Rattle.sandbox_runs.proofs.invoking.ended_call.Goals as goal

-- what was printed stands on the output, and what was reported is left
pub returns-clause-told : goal.returns-clause-told
returns-clause-told g c = told_of_call g.D.Device.honest g.D.Device.disk g.D.Device.size g.D.Device.failures g.D.Device.goes_on g.R.Read.remaining g.W1.Write.contents g.W2.Write.contents (hearing g.R.Inlet.gave g.R.Inlet.refused g.W1.Outlet.took g.W1.Outlet.refused g.W2.Outlet.took g.W2.Outlet.refused)
    c.args.value_type c.args.called c.args.room.items _ _ c.tell_call-outcome.new.out c.reported.result c.with_fault.result c.is_err-failed.result c.stopped_with-stopped.result
    c.tell_call-outcome.ensures c.is_err-failed.ensures.value c.reported.ensures.ends c.reported.ensures.device c.reported.ensures.input c.reported.ensures.out c.reported.ensures.err
    c.reported.ensures.stopped c.stopped_with-stopped.ensures.depth c.stopped_with-stopped.ensures.innermost c.with_fault.ensures

-- where its fuel went, and how the outputs were flushed, no fault changes
pub returns-clause-fuel_use : goal.returns-clause-fuel_use
returns-clause-fuel_use g c =
    let stays = blamed_left c.is_err-failed.result c.reported.result c.with_fault.result c.tell_call-outcome.result.1 c.with_fault.ensures in
    (c.stopped_with-stopped.result, stays.4 ∙ c.reported.ensures.stopped, c.stopped_with-stopped.ensures.fuel_use)

pub returns-clause-answered : goal.returns-clause-answered
returns-clause-answered g c = blamed_answers c.is_err-failed.result c.reported.result c.with_fault.result
    (λ flushed out err. BothAnswered g.W1.Outlet.flushed g.W1.Outlet.refuses g.W2.Outlet.flushed g.W2.Outlet.refuses flushed out err)
    c.tell_call-outcome.result.1 c.with_fault.ensures c.reported.ensures.answered
