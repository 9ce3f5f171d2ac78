-- The walk goes over all that stands before the end of the body.
use Rattle.std.proofs.Common.{◌≡◌, [], ◌∷◌, ◌++◌, length, Bool, sym, ◌∙◌, ap, subst, arith, length-append}
use Rattle.std.proofs.lemmas.Bool.{false≢true}
use Rattle.std.proofs.lemmas.List.{same_from_push}
use Rattle.wasm_syntax.specs.declared.instruction.Instruction.{Instruction}
use Rattle.wasm_syntax.specs.declared.instruction.Instruction.TheVariants as op
use Rattle.wasm_valid.specs.declared.control_frames.BlockKind.TheVariants.{Block}
use Rattle.wasm_valid.specs.Typing.{Context}
use Rattle.wasm_valid.specs.internal.Blocks.{new_block, stepped}
use Rattle.wasm_valid.specs.internal.Bodies.{Going}
use Rattle.wasm_valid.specs.internal.Operands.{StepsTo}
use Rattle.wasm_valid.specs.internal.Contexts.{IsFunctionContext}
use Rattle.wasm_valid.proofs.Going.{whole_of, GoesOn-more, GoesOn-stops, GoesOn-ends, no_end}
use Rattle.wasm_valid.proofs.function_context.FunctionContext.untyped.Goals as goal

pub returns-in_default : goal.returns-in_default
returns-in_default c = λ k at.
    let empty : length c.args.code.now ≡ 0 = c.in_default.ensures.cases in
    no_end k c.args.self.now.returns c.args.code.now (λ front e. omega (arith, ap length e, length-append front (op.End ∷ [])))

pub returns-in_default-last : goal.returns-in_default-last
returns-in_default-last c = λ k at.
    no_end k c.args.self.now.returns c.args.code.now
    (λ front e. c.in_default-last.not-End (same_from_push c.in-Some.inner.now front c.in-Some.last.now op.End (sym c.in-Some.ensures.cases.0 ∙ e)).1)

pub returns-then-not-branch : goal.returns-then-not-branch
returns-then-not-branch c = λ k at q.
    let function_context = c.args.self.now in
    let start = new_block Block function_context.returns ∷ [] in
    let inner = c.in-Some.inner.now in
    let item = c.index-inner-i.result in
    let l = c.loop-i in
    let code : c.args.code.now ≡ whole_of inner = c.in-Some.ensures.cases.0 ∙ ap (λ (e : Instruction). inner ++ e ∷ []) c.in-End.is in
    let step = subst (λ (t : Bool). (k : Context) → IsFunctionContext function_context k → StepsTo t (stepped k item l.walk) c.step.new.self) c.if-not-branch.true c.in_ok-step.ensures in
    GoesOn-stops function_context start inner l.i item l.walk c.step.new.self (omega arith) c.index-inner-i.is l.invariant step k at (subst (Going k start) code q)

pub loop-i-preserved : goal.loop-i-preserved
loop-i-preserved c =
    let function_context = c.args.self.now in
    let start = new_block Block function_context.returns ∷ [] in
    let inner = c.in-Some.inner.now in
    let item = c.index-inner-i.result in
    let l = c.loop-i in
    let step = subst (λ (t : Bool). (k : Context) → IsFunctionContext function_context k → StepsTo t (stepped k item l.walk) c.step.new.self) c.if-not-branch.false c.in_ok-step.ensures in
    GoesOn-more function_context start inner l.i item l.walk c.step.new.self (omega arith) c.index-inner-i.is l.invariant step

pub returns-then-finish : goal.returns-then-finish
returns-then-finish c = λ k at.
    let function_context = c.args.self.now in
    let start = new_block Block function_context.returns ∷ [] in
    let inner = c.in-Some.inner.now in
    let l = c.loop-i in
    let code : c.args.code.now ≡ whole_of inner = c.in-Some.ensures.cases.0 ∙ ap (λ (e : Instruction). inner ++ e ∷ []) c.in-End.is in
    subst (Going k start) (sym code) ((GoesOn-ends function_context start inner l.i l.walk c.finish.result (omega arith) l.invariant c.finish.ensures k at).0 c.if-finish.true)

pub returns : goal.returns
returns c = λ k at q.
    let function_context = c.args.self.now in
    let start = new_block Block function_context.returns ∷ [] in
    let inner = c.in-Some.inner.now in
    let l = c.loop-i in
    let code : c.args.code.now ≡ whole_of inner = c.in-Some.ensures.cases.0 ∙ ap (λ (e : Instruction). inner ++ e ∷ []) c.in-End.is in
    false≢true (sym c.if-finish.false ∙ (GoesOn-ends function_context start inner l.i l.walk c.finish.result (omega arith) l.invariant c.finish.ensures k at).1 (subst (Going k start) code q))
