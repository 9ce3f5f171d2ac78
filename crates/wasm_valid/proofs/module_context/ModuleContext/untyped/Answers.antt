use Rattle.std.proofs.Common.{◌≡◌, ◌∷◌, [], ◌++◌, ℕ, List, Option, ◌∙◌, ap}
use Rattle.std.proofs.lemmas.Result.{IfOk-weaker}
use Rattle.wasm_syntax.specs.declared.instruction.ValueType.{ValueType}
use Rattle.wasm_syntax.specs.declared.module.Locals.{Locals}
use Rattle.wasm_valid.specs.declared.control_frames.BlockKind.TheVariants.{Block}
use Rattle.wasm_valid.specs.declared.function_context.FunctionContext.{FunctionContext}
use Rattle.wasm_valid.specs.Typing.{Context}
use Rattle.wasm_valid.specs.Spaces.{local_types}
use Rattle.wasm_valid.specs.Validity.{FunctionTyped}
use Rattle.wasm_valid.specs.internal.Blocks.{new_block}
use Rattle.wasm_valid.specs.internal.Bodies.{Going}
use Rattle.wasm_valid.specs.internal.Contexts.{IsModuleContext, IsFunctionContext}
use Rattle.wasm_valid.proofs.Going.{Verdict, function_answer}
use Rattle.wasm_valid.proofs.module_context.ModuleContext.untyped.Goals as goal

pub returns : goal.returns
returns c =
    let f = c.args.function.now in
    let b = c.args.body.now in
    let flat = c.as_slice-3.result.now in
    let function_context : FunctionContext = record { module_context = c.args.self; locals = c.in_ok-locals.locals; returns = c.result_type.result } in
    let locals : c.in_ok-locals.locals ≡ f.params ++ local_types b.locals =
    c.in_ok-locals.ensures ∙ ap (λ (ps : List ValueType). ps ++ local_types c.as_slice-2.result.now) c.as_slice.ensures ∙ ap (λ (gs : List Locals). f.params ++ local_types gs) c.as_slice-2.ensures in
    IfOk-weaker c.untyped.result
    (λ (r : Option ℕ). (k : Context) → IsFunctionContext function_context k → Verdict r (Going k (new_block Block function_context.returns ∷ []) flat))
    (λ (r : Option ℕ). (k : Context) → IsModuleContext c.args.self.now k → Verdict r (FunctionTyped k f b))
    (λ r h k is. function_answer function_context f b flat r locals c.result_type.ensures c.as_slice-3.ensures h k is)
    c.untyped.ensures
