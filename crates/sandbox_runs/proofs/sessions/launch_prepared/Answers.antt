use Rattle.std.proofs.Common.{◌∙◌, ap, length}
use Rattle.wasi_bodies.specs.host.Worlds.{hearing}
use Rattle.sandbox_runs.proofs.Charged.{none_tells}
use Rattle.sandbox_runs.proofs.Launching.{no_session, ran}
use Rattle.sandbox_runs.proofs.sessions.launch_prepared.Goals as goal

-- the session ran
pub returns-in-Ok-clause-launches : goal.returns-in-Ok-clause-launches
returns-in-Ok-clause-launches g c = λ its same.
    ran g.D.Device g.R.Read.remaining g.W1.Write.contents g.W2.Write.contents (hearing g.R.Inlet.gave g.R.Inlet.refused g.W1.Outlet.took g.W1.Outlet.refused g.W2.Outlet.took g.W2.Outlet.refused) c.args.run.now c.args.shared.now.valid its c.args.parts same
    c.in-Ok.session c.in-Ok.ensures.opens c.in-Ok.ensures.shares c.imports_of-imported.result
    (c.imports_of-imported.ensures ∙ ap (λ m. length m.imports) (c.«module».ensures.value ∙ c.module-valid.ensures)) c.run_session-left.result.1 c.run_session-left.ensures.ran

-- there is no session
pub returns-in-Err-clause-launches : goal.returns-in-Err-clause-launches
returns-in-Err-clause-launches g c = λ its same.
    let ended = c.no_session.ensures in
    no_session g.D.Device g.R.Read.remaining g.W1.Write.contents g.W2.Write.contents (hearing g.R.Inlet.gave g.R.Inlet.refused g.W1.Outlet.took g.W1.Outlet.refused g.W2.Outlet.took g.W2.Outlet.refused) c.args.run.now c.args.shared.now.valid its c.args.parts same
    (record { valid = c.args.shared.now.valid; parts = c.in-Err.field-0.parts; fault = c.in-Err.field-0.fault }) c.in-Err.ensures.hands_back c.in-Err.ensures.refused
    c.no_session.result ended.ends ended.flushed ended.summary ended.device ended.input ended.out ended.err

pub returns-in-Err-clause-fuel_use : goal.returns-in-Err-clause-fuel_use
returns-in-Err-clause-fuel_use g c = none_tells c.args.stacks _ c.no_session.ensures.stopped
