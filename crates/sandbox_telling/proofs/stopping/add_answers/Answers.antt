use Rattle.std.proofs.Common.{◌<◌, ◌≤◌, ℕ, refl, sym, subst}
use Rattle.sandbox_telling.proofs.Answered.{all_told, one_errno_more}
use Rattle.sandbox_telling.proofs.stopping.add_answers.Goals as goal

pub loop-errno-init : goal.loop-errno-init
loop-errno-init c = refl

-- one line more, or none
pub loop-errno-preserved : goal.loop-errno-preserved
loop-errno-preserved c =
    one_errno_more c.args.answers.now c.loop-errno.errno _ _ c.loop-errno.text.items c.add_answer.new.text.items
    (subst (λ (n : ℕ). c.loop-errno.errno < n) (sym c.told-answers) c.loop-errno-test.true) c.loop-errno.invariant (c.in_ok-add_answer.ensures {u = tt})

pub returns : goal.returns
returns c = all_told c.args.answers.now c.loop-errno.errno _ c.loop-errno.text.items
    (subst (λ (n : ℕ). n ≤ c.loop-errno.errno) (sym c.told-answers) c.loop-errno-test.false) c.loop-errno.invariant
