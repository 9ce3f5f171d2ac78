use Rattle.std.proofs.Common.{List, Bool, subst}
use Rattle.std.proofs.lemmas.Result.{IfOk-weaker}
use Rattle.wasm_valid.specs.Typing.{Context}
use Rattle.wasm_valid.specs.internal.Effects.{after}
use Rattle.wasm_valid.specs.internal.Blocks.{OpenBlock, plain_in}
use Rattle.wasm_valid.specs.internal.Operands.{blocks_of, control_frame_labels, StepsTo}
use Rattle.wasm_valid.specs.internal.Contexts.{IsFunctionContext}
use Rattle.wasm_valid.proofs.Nested.{plain_answers, nested_still}
use Rattle.wasm_valid.proofs.body_validator.BodyValidator.plain.Goals as goal

pub invariant_of-self : goal.invariant_of-self
invariant_of-self c = nested_still c.self.inside.operands c.plain.new.operands c.self.inside.control_frames c.plain.ensures.below c.self.invariant

pub returns : goal.returns
returns c =
    let w = c.self.inside in
    let p = c.plain.new.operands in
    let i = c.args.instruction.now in
    IfOk-weaker c.plain.result
    (λ (typed : Bool). (k : Context) → IsFunctionContext c.args.function_context.now k → StepsTo typed (after k (control_frame_labels w.control_frames) i w.operands.stack) p.stack)
    (λ (typed : Bool). (k : Context) → IsFunctionContext c.args.function_context.now k → StepsTo typed (plain_in k i c.args.self.now) (blocks_of p w.control_frames))
    (λ typed h k is. subst (λ (l : List OpenBlock). StepsTo typed (plain_in k i l) (blocks_of p w.control_frames)) c.self.view_is
    (plain_answers k i w.operands p w.control_frames typed c.self.invariant.0 c.plain.ensures.below (h k is)))
    c.plain.ensures.stack
