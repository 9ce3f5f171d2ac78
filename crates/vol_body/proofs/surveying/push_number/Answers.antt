use Rattle.std.proofs.Common.{arith, rules}
use Rattle.std.proofs.lemmas.Grind.{common_steps}
use Rattle.vol_body.proofs.SurveyExits.{overflows_outside, overflows_full, pushes_one}
use Rattle.vol_body.proofs.surveying.push_number.Goals as goal
use Rattle.vol_body.proofs.surveying.push_number.Goals.{then-n-first-via-then-n-first, then-n-first-via-else-n-first+then-end-n, then-n-first-via-else-n-first+else-end-n+then-end-first}

pub returns-then-n-first-clause-damaged : goal.returns-then-n-first-clause-damaged
returns-then-n-first-clause-damaged c is = elim c.then-n-first.branch [
  | then-n-first-via-then-n-first w ↦ overflows_outside c.args.first c.args.end c.args.named.now.items c.args.n c.if-n-eq0.false (λ both. omega (arith, w.if-n-first.true, both.0))
  | then-n-first-via-else-n-first+then-end-n w ↦ overflows_outside c.args.first c.args.end c.args.named.now.items c.args.n c.if-n-eq0.false (λ both. omega (arith, w.if-end-n.true, both.1))
  | then-n-first-via-else-n-first+else-end-n+then-end-first w ↦ overflows_full c.args.first c.args.end c.args.named.now.items c.args.n c.if-n-eq0.false (omega (arith, w.if-end-first.true, w.len.ensures))
]

pub returns-in-Ok-clause-pushes : goal.returns-in-Ok-clause-pushes
returns-in-Ok-clause-pushes c =
    pushes_one c.args.first c.args.end c.args.named.now.items c.push.new.self.items c.args.n c.requires c.if-n-eq0.false (omega (arith, c.if-n-first.false)) (omega (arith, c.if-end-n.false))
    (omega (arith, c.if-end-first.false, c.len.ensures)) (search (rules, c.in-Ok.ensures.items))

pub returns-in-Err-clause-damaged : goal.returns-in-Err-clause-damaged
returns-in-Err-clause-damaged c = grind (arith, common_steps)
