use Rattle.std.proofs.Common.{ℕ, List, ◌++◌, length, refl, ap, arith}
use Rattle.std.proofs.lemmas.Result.{IfOk-from_err}
use Rattle.std.proofs.lemmas.Grind.{common_steps}
use Rattle.wasm_valid.specs.internal.Ends.{ends_from}
use Rattle.wasm_valid.proofs.Groups.{ends_more}
use Rattle.wasm_valid.proofs.locals.LocalTypes.new.Goals as goal

pub returns-in_err-push : goal.returns-in_err-push
returns-in_err-push c = IfOk-from_err c.from_residual.result _ c.from_residual.ensures.0

pub loop-group-init : goal.loop-group-init
loop-group-init c = ap (λ (es : List ℕ). es ++ ends_from (length c.args.params.now) c.args.groups.now) c.new-ends.ensures.items

pub returns : goal.returns
returns c = refl

pub loop-group-preserved : goal.loop-group-preserved
loop-group-preserved c =
    ends_more c.args.groups.now c.loop-group.group-index c.loop-group.end c.from.result c.saturating_add-end.result _ c.loop-group.ends.items c.push.new.self.items _ c.loop-group-test.true c.from.ensures c.saturating_add-end.ensures c.in_ok-push.ensures.items c.loop-group.invariant

pub invariant_of-result : goal.invariant_of-result
invariant_of-result c = grind (arith, common_steps)
