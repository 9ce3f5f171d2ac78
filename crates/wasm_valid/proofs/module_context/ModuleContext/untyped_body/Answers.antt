use Rattle.std.proofs.Common.{ℕ, Option, Some, None}
use Rattle.std.proofs.lemmas.Result.{IfOk-weaker}
use Rattle.wasm_valid.specs.Typing.{Context}
use Rattle.wasm_valid.specs.Validity.{FunctionTyped}
use Rattle.wasm_valid.specs.internal.Bodies.{BodyTyped}
use Rattle.wasm_valid.specs.internal.Contexts.{IsModuleContext}
use Rattle.wasm_valid.proofs.Contexts.{copied_at}
use Rattle.wasm_valid.proofs.Going.{Verdict, body_answer}
use Rattle.wasm_valid.proofs.module_context.ModuleContext.untyped_body.Goals as goal

pub returns-in-Some : goal.returns-in-Some
returns-in-Some c =
    let types = c.args.self.now.types.now in
    let found = copied_at types c.args.type_index (Some c.in-Some.function) c.in-Some.ensures.lookup in
    IfOk-weaker c.untyped.result
    (λ (r : Option ℕ). (k : Context) → IsModuleContext c.args.self.now k → Verdict r (FunctionTyped k c.in-Some.function.now c.args.body.now))
    (λ (r : Option ℕ). (k : Context) → IsModuleContext c.args.self.now k → Verdict r (BodyTyped k types c.args.type_index c.args.body.now))
    (λ r h k is. body_answer k types c.args.type_index c.in-Some.function.now c.args.body.now r found (h k is))
    c.untyped.ensures

pub returns-in-None : goal.returns-in-None
returns-in-None c = λ k is h.
    let gone = copied_at c.args.self.now.types.now c.args.type_index None c.in-None.ensures.lookup in
    let there = h.1 in cc
