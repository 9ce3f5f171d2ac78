use Rattle.std.proofs.Common.{inl, inr, refl}
use Rattle.invoked_run.proofs.Going.{no_return}
use Rattle.invoked_run.proofs.calling.call_within.Goals as goal

-- the opening didn't return
pub returns-in_default : goal.returns-in_default
returns-in_default g c = inl (c.go_until-opening.ensures, no_return c.go_until-opening.result (λ value is. c.in_default.not-Returned value is))

-- the function was called
pub returns-in-Ok : goal.returns-in-Ok
returns-in-Ok g c = inr (c.go_until-opening.new.instance, _, c.in-Returned.ensures, inr (c.invoke.new.self, c.in-Ok.ensures.invoked, c.go_until.ensures))

-- or it can't be
pub returns-in-Err : goal.returns-in-Err
returns-in-Err g c = inr (c.go_until-opening.new.instance, _, c.in-Returned.ensures, inl (c.in-Err.misuse, refl, c.in-Err.ensures.refused.0, c.in-Err.ensures.refused.1))
