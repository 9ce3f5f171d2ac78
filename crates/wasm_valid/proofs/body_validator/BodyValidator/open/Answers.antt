use Rattle.std.proofs.Common.{◌≡◌, ◌<◌, ◌∷◌, List, length, Some, sym, ap, ◌∙◌, subst, arith}
use Rattle.std.proofs.lemmas.Result.{IfOk-from_err}
use Rattle.std.proofs.lemmas.Grind.{common_steps}
use Rattle.wasm_valid.specs.declared.control_frames.ControlFrame.{ControlFrame}
use Rattle.wasm_valid.specs.declared.control_frames.Mark.{Mark}
use Rattle.wasm_valid.specs.internal.Blocks.{OpenBlock, opened_in}
use Rattle.wasm_valid.specs.internal.Operands.{blocks_of, AreNested}
use Rattle.wasm_valid.proofs.Nested.{entering, open_answers}
use Rattle.wasm_valid.proofs.body_validator.BodyValidator.open.Goals as goal

pub returns : goal.returns
returns c =
    let w = c.self.inside in
    let are : c.push.new.self ≡ entering c.args.kind c.args.block_type w.operands ∷ w.control_frames =
    c.in_ok-push.ensures.pushed ∙ ap (λ (m : Mark). record { kind = c.args.kind; block_type = c.args.block_type; around = m } ∷ w.control_frames) c.mark-around.ensures in
    subst (λ (l : List OpenBlock). opened_in c.args.kind c.args.block_type l ≡ Some (blocks_of c.enter.new.self c.push.new.self)) c.self.view_is
    (open_answers c.args.kind c.args.block_type w.operands c.enter.new.self w.control_frames c.push.new.self c.self.invariant.0 are c.enter.ensures)

pub invariant_of-self : goal.invariant_of-self
invariant_of-self c = subst (λ (fs : List ControlFrame). (0 < length fs) × AreNested c.self.inside.operands.below fs) (sym c.in_err-push.ensures.unchanged) c.self.invariant

pub returns-in_err-push : goal.returns-in_err-push
returns-in_err-push c = IfOk-from_err c.from_residual.result _ c.from_residual.ensures.0

pub invariant_of-self-2 : goal.invariant_of-self-2
invariant_of-self-2 c = grind (arith, common_steps)
