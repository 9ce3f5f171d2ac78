use Rattle.std.proofs.Common.{refl, sym, ◌∙◌, true≢false, arith}
use Rattle.std.proofs.lemmas.Grind.{common_steps}
use Rattle.vol_log.proofs.Moments.{leaves_same}
use Rattle.vol_log.proofs.log.Log.read.Goals as goal

pub returns-then-self-clause-crash : goal.returns-then-self-clause-crash
returns-then-self-clause-crash g c h = leaves_same (g.D.Device.disk c.args.self.now.device) (λ m. ⊥)

pub returns-in-Some-clause-crash : goal.returns-in-Some-clause-crash
returns-in-Some-clause-crash g c h = leaves_same (g.D.Device.disk c.args.self.now.device) (λ m. ⊥)

pub returns-in-Some-clause-idle : goal.returns-in-Some-clause-idle
returns-in-Some-clause-idle g c = λ failed. absurd (true≢false (sym failed ∙ c.if-self.false))

pub returns-in-None-clause-idle : goal.returns-in-None-clause-idle
returns-in-None-clause-idle g c = λ failed. absurd (true≢false (sym failed ∙ c.if-self.false))

pub returns-in-None-clause-seen : goal.returns-in-None-clause-seen
returns-in-None-clause-seen g c = c.read-outcome.ensures.seen

pub returns-in-None-clause-crash : goal.returns-in-None-clause-crash
returns-in-None-clause-crash g c = c.read-outcome.ensures.crash

pub returns-in-None-clause-honest : goal.returns-in-None-clause-honest
returns-in-None-clause-honest g c = c.read-outcome.ensures.honest

pub returns-in-None-clause-size : goal.returns-in-None-clause-size
returns-in-None-clause-size g c = c.read-outcome.ensures.size

pub returns-in-None-clause-failures : goal.returns-in-None-clause-failures
returns-in-None-clause-failures g c = λ working. c.read-outcome.ensures.failures

pub returns-in-None-clause-staged : goal.returns-in-None-clause-staged
returns-in-None-clause-staged g c = refl

pub returns-in-None-clause-sectors : goal.returns-in-None-clause-sectors
returns-in-None-clause-sectors g c = refl

pub returns-in-None-clause-one_operation : goal.returns-in-None-clause-one_operation
returns-in-None-clause-one_operation g c h working other = c.read-outcome.ensures.operation_count h

pub invariant_of-self : goal.invariant_of-self
invariant_of-self c = grind (arith, common_steps)
