use Rattle.std.proofs.Common.{sym, ap, ◌∙◌, arith}
use Rattle.std.proofs.lemmas.Grind.{common_steps}
use Rattle.wasm_valid.specs.internal.Blocks.{ended_in}
use Rattle.wasm_valid.proofs.Nested.{end_of_few, end_of_if, end_of_other, end_answers, end_nested, popped_head, no_head}
use Rattle.wasm_valid.proofs.body_validator.BodyValidator.end.Goals as goal

pub returns-then-len-lt2 : goal.returns-then-len-lt2
returns-then-len-lt2 c =
    let w = c.self.inside in
    ap ended_in (sym c.self.view_is) ∙ end_of_few w.operands w.control_frames (omega arith)

pub returns-in_default : goal.returns-in_default
returns-in_default c = absurd (no_head c.self.inside.control_frames c.self.invariant.0 c.in_default.ensures)

pub returns-then-not-may_end : goal.returns-then-not-may_end
returns-then-not-may_end c =
    let w = c.self.inside in
    ap ended_in (sym c.self.view_is) ∙ end_of_if w.operands w.control_frames c.in-Some.control_frame c.in-Some.ensures (sym c.if-not-may_end.ensures)

pub returns-then-not-can_be : goal.returns-then-not-can_be
returns-then-not-can_be c =
    let w = c.self.inside in
    ap ended_in (sym c.self.view_is) ∙ end_of_other w.operands w.control_frames c.in-Some.control_frame c.in-Some.ensures (sym c.if-not-can_be.ensures.stack)

pub invariant_of-self-in_err-push_results : goal.invariant_of-self-in_err-push_results
invariant_of-self-in_err-push_results c =
    let w = c.self.inside in
    let f = c.in-Some.control_frame in
    let are = popped_head c.pop.result w.control_frames c.pop.new.self f c.pop.ensures c.in-Some.ensures in
    end_nested w.operands c.can_be.new.self c.exit.new.self c.push_results.new.self w.control_frames c.pop.new.self f c.self.invariant.1 (omega arith) are c.can_be.ensures.below c.exit.ensures c.push_results.ensures.below

pub returns : goal.returns
returns c =
    let w = c.self.inside in
    let f = c.in-Some.control_frame in
    let are = popped_head c.pop.result w.control_frames c.pop.new.self f c.pop.ensures c.in-Some.ensures in
    ap ended_in (sym c.self.view_is)
    ∙ end_answers w.operands c.can_be.new.self c.exit.new.self c.push_results.new.self w.control_frames c.pop.new.self f (omega arith) are (sym c.if-not-may_end.ensures) (sym c.if-not-can_be.ensures.stack) c.can_be.ensures.below c.exit.ensures c.push_results.ensures.below c.in_ok-push_results.ensures.stack

pub invariant_of-self : goal.invariant_of-self
invariant_of-self c = grind (arith, common_steps)

pub invariant_of-self-2 : goal.invariant_of-self-2
invariant_of-self-2 c = grind (arith, common_steps)
