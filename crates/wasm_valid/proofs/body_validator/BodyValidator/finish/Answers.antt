use Rattle.std.proofs.Common.{sym, ap, ◌∙◌, arith}
use Rattle.wasm_valid.specs.internal.Blocks.{is_finished}
use Rattle.wasm_valid.proofs.Nested.{not_finished, finish_of_if, finish_is, no_head}
use Rattle.wasm_valid.proofs.body_validator.BodyValidator.finish.Goals as goal

pub returns-then-len-gt1 : goal.returns-then-len-gt1
returns-then-len-gt1 c =
    let w = c.self.inside in
    not_finished w.operands w.control_frames (omega arith) ∙ ap is_finished c.self.view_is

pub returns-in_default : goal.returns-in_default
returns-in_default c = absurd (no_head c.self.inside.control_frames c.self.invariant.0 c.in_default.ensures)

pub returns-then-not-may_end : goal.returns-then-not-may_end
returns-then-not-may_end c =
    let w = c.self.inside in
    finish_of_if w.operands w.control_frames c.in-Some.control_frame c.in-Some.ensures (sym c.if-not-may_end.ensures) ∙ ap is_finished c.self.view_is

pub returns : goal.returns
returns c =
    let w = c.self.inside in
    finish_is w.operands w.control_frames c.in-Some.control_frame c.can_be.result (omega arith) c.in-Some.ensures (sym c.if-not-may_end.ensures) c.can_be.ensures.stack ∙ ap is_finished c.self.view_is
