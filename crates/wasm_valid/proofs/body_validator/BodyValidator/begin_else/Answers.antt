use Rattle.std.proofs.Common.{sym, ap, ◌∙◌, arith}
use Rattle.std.proofs.lemmas.Grind.{common_steps}
use Rattle.wasm_valid.specs.internal.Blocks.{elsed_in}
use Rattle.wasm_valid.proofs.Nested.{no_else, no_else_yet}
use Rattle.wasm_valid.proofs.body_validator.BodyValidator.begin_else.Goals as goal

pub returns-then-not-is_if : goal.returns-then-not-is_if
returns-then-not-is_if c =
    let w = c.self.inside in
    ap elsed_in (sym c.self.view_is) ∙ no_else w.operands w.control_frames c.in-Some.control_frame c.in-Some.ensures (sym c.if-not-is_if.ensures)

pub returns-then-not-can_be : goal.returns-then-not-can_be
returns-then-not-can_be c =
    let w = c.self.inside in
    ap elsed_in (sym c.self.view_is) ∙ no_else_yet w.operands w.control_frames c.in-Some.control_frame c.in-Some.ensures (sym c.if-not-can_be.ensures.stack)

pub invariant_of-self : goal.invariant_of-self
invariant_of-self c = grind (arith, common_steps)

pub invariant_of-self-2 : goal.invariant_of-self-2
invariant_of-self-2 c = grind (arith, common_steps)
