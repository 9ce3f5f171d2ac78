use Rattle.std.proofs.Common.{List, subst}
use Rattle.wasm_valid.specs.internal.Blocks.{OpenBlock, popped_in}
use Rattle.wasm_valid.specs.internal.Operands.{blocks_of, StepsTo}
use Rattle.wasm_valid.proofs.Nested.{pop_answers}
use Rattle.wasm_valid.proofs.body_validator.BodyValidator.pop.Goals as goal

pub returns : goal.returns
returns c =
    let w = c.self.inside in
    let p = c.pop.new.self in
    subst (λ (l : List OpenBlock). StepsTo c.pop.result (popped_in c.args.expected l) (blocks_of p w.control_frames)) c.self.view_is
    (pop_answers c.args.expected w.operands p w.control_frames c.pop.result c.self.invariant.0 c.pop.ensures.below c.pop.ensures.stack)
