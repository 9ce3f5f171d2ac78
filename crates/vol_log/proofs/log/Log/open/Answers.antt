use Rattle.std.proofs.Common.{◌∙◌, List, ap, ⊎_elim, inl, inr, rules, arith}
use Rattle.std.proofs.lemmas.Grind.{common_steps}
use Rattle.vol_log.specs.Batch.{over}
use Rattle.vol_log.specs.declared.staged.Staged.{Staged}
use Rattle.vol_log.proofs.log.Log.open.Goals as goal

pub returns-in-Ok-replay-clause-content : goal.returns-in-Ok-replay-clause-content
returns-in-Ok-replay-clause-content g c m h has k is =
    ap (λ (b : List Staged). over b (g.D.Device.disk c.replay.new.device).seen k) c.in-Ok-replay.ensures.emptied ∙ c.in-Ok-replay.ensures.content m h has k is

pub returns-in-Err-replay-clause-damaged : goal.returns-in-Err-replay-clause-damaged
returns-in-Err-replay-clause-damaged g c h is =
    let none = c.in-Err-replay.ensures.damaged h is in
    (none, c.in-Err-replay.ensures.quiet h none)

pub returns-in-Err-replay-clause-faults_named : goal.returns-in-Err-replay-clause-faults_named
returns-in-Err-replay-clause-faults_named g c = ⊎_elim (λ is. inl is) (λ is. inr (inl is)) c.in-Err-replay.ensures.named

pub returns-in-Ok-replay-clause-fresh : goal.returns-in-Ok-replay-clause-fresh
returns-in-Ok-replay-clause-fresh g c = search rules

pub invariant_of-result : goal.invariant_of-result
invariant_of-result c = grind (arith, common_steps)

pub returns-in-Err-clause-crash_err : goal.returns-in-Err-clause-crash_err
returns-in-Err-clause-crash_err c = grind (arith, common_steps)
