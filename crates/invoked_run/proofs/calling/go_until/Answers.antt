use Rattle.std.proofs.Common.{[], ◌-◌, ap, refl, ◌∙◌}
use Rattle.wasm_places.specs.declared.invocable.Event.TheVariants.{Paused}
use Rattle.sandbox_core.specs.Devices.{devices}
use Rattle.invoked_run.proofs.Going.{goes_on, has_ended, has_returned, has_spent, measure_falls, was_asked}
use Rattle.invoked_run.proofs.calling.go_until.Goals as goal

-- nothing has run yet
pub going-init : goal.going-init
going-init g c = record { calls = []; answered = tt; follow = refl; within = c.requires.within; goes = c.requires.goes }

-- a function is at work
pub unreachable-requires : goal.unreachable-requires
unreachable-requires g c = c.in_default.ensures.refused.1 c.going.invariant.goes

-- a call of WASI was answered
pub going-preserved : goal.going-preserved
going-preserved g c = goes_on (devices g.D.Device g.R.Read g.W1.Write g.W2.Write g.R.Inlet.gave g.R.Inlet.refused g.W1.Outlet.took g.W1.Outlet.refused g.W2.Outlet.took g.W2.Outlet.refused) _ _ _ c.args.fuel _ c.going.invariant (ap (λ n. c.args.fuel - n) c.used.ensures) _ _ _ c.in-Ok.ensures.went (c.in-Paused.is ∙ ap Paused c.in-Called.is)

pub going-smaller : goal.going-smaller
going-smaller g c = measure_falls (devices g.D.Device g.R.Read g.W1.Write g.W2.Write g.R.Inlet.gave g.R.Inlet.refused g.W1.Outlet.took g.W1.Outlet.refused g.W2.Outlet.took g.W2.Outlet.refused) _ _ _ c.args.fuel _ c.going.invariant (ap (λ n. c.args.fuel - n) c.used.ensures) _ _ _ c.in-Ok.ensures.went (c.in-Paused.is ∙ ap Paused c.in-Called.is)

-- it stops
pub returns-in-Returned : goal.returns-in-Returned
returns-in-Returned g c = has_returned (devices g.D.Device g.R.Read g.W1.Write g.W2.Write g.R.Inlet.gave g.R.Inlet.refused g.W1.Outlet.took g.W1.Outlet.refused g.W2.Outlet.took g.W2.Outlet.refused) _ _ _ c.args.fuel _ c.going.invariant (ap (λ n. c.args.fuel - n) c.used.ensures) _ _ c.in-Ok.ensures.went c.in-Returned.is c.result.ensures

pub returns-in-Asked : goal.returns-in-Asked
returns-in-Asked g c = was_asked (devices g.D.Device g.R.Read g.W1.Write g.W2.Write g.R.Inlet.gave g.R.Inlet.refused g.W1.Outlet.took g.W1.Outlet.refused g.W2.Outlet.took g.W2.Outlet.refused) _ _ _ c.args.fuel _ c.going.invariant (ap (λ n. c.args.fuel - n) c.used.ensures) _ _ c.in-Ok.ensures.went c.in-Asked.is

pub returns-in-Spent : goal.returns-in-Spent
returns-in-Spent g c = has_spent (devices g.D.Device g.R.Read g.W1.Write g.W2.Write g.R.Inlet.gave g.R.Inlet.refused g.W1.Outlet.took g.W1.Outlet.refused g.W2.Outlet.took g.W2.Outlet.refused) _ _ _ c.args.fuel _ c.going.invariant (ap (λ n. c.args.fuel - n) c.used.ensures) _ c.in-Ok.ensures.went (c.in-Paused.is ∙ ap Paused c.in-Spent.is)

pub returns-in-Ended : goal.returns-in-Ended
returns-in-Ended g c = has_ended (devices g.D.Device g.R.Read g.W1.Write g.W2.Write g.R.Inlet.gave g.R.Inlet.refused g.W1.Outlet.took g.W1.Outlet.refused g.W2.Outlet.took g.W2.Outlet.refused) _ _ _ c.args.fuel _ c.going.invariant (ap (λ n. c.args.fuel - n) c.used.ensures) _ _ c.in-Ok.ensures.went (c.in-Paused.is ∙ ap Paused c.in-Ended.is)
