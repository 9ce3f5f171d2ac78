use Rattle.std.proofs.Common.{subst}
use Rattle.std.proofs.lemmas.List.{take_all}
use Rattle.vol_body.specs.internal.Surveying.{Pushes}
use Rattle.vol_body.proofs.SurveyExits.{pushes_none, pushes_next, overflows_next, handed_on}
use Rattle.std.proofs.lemmas.Result.{IfOk-from_err}
use Rattle.vol_body.proofs.surveying.push_all.Goals as goal

pub loop-n-init : goal.loop-n-init
loop-n-init c = pushes_none c.args.first c.args.end c.args.named.now.items c.requires

pub loop-n-preserved : goal.loop-n-preserved
loop-n-preserved c = pushes_next c.args.first c.args.end c.args.named.now.items c.loop-n.named.items c.push_number.new.named.items c.args.numbers.now c.loop-n.n-index c.loop-n-test.true c.loop-n.invariant c.in_ok-push_number.ensures.pushes

pub push_number-requires : goal.push_number-requires
push_number-requires c = c.loop-n.invariant.inside

pub returns-in_err-push_number : goal.returns-in_err-push_number
returns-in_err-push_number c =
    let r = c.from_residual.result in
    let is = c.from_residual.ensures.1 in
    let x = c.in_err-push_number.field-0.0 in
    let e = c.in_err-push_number.ensures in
    record {
      pushes = IfOk-from_err r _ c.from_residual.ensures.0;
      damaged = handed_on r _ x is (λ damaged. overflows_next c.args.first c.args.end c.args.named.now.items c.loop-n.named.items c.args.numbers.now c.loop-n.n-index c.loop-n-test.true c.loop-n.invariant (e.damaged damaged));
      refused = handed_on r _ x is e.refused;
    }

pub returns : goal.returns
returns c = record {
  pushes = subst (Pushes c.args.first c.args.end c.args.named.now.items c.loop-n.named.items) (take_all c.loop-n.n-index c.args.numbers.now c.loop-n-test.false) c.loop-n.invariant;
  damaged = tt;
  refused = tt;
}
