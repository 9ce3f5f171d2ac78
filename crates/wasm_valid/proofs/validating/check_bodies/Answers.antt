use Rattle.std.proofs.Common.{arith, IsTrue, length, nat_eq}
use Rattle.std.proofs.lemmas.Bool.Decides.{Decides-eqb}
use Rattle.wasm_valid.specs.internal.Answers.{Decides}
use Rattle.wasm_valid.specs.Validity.{FunctionsTyped}
use Rattle.wasm_valid.proofs.Refusals.{refused}
use Rattle.wasm_valid.proofs.EachBody.{in_module, same_length, Remaining-none}
use Rattle.wasm_valid.proofs.validating.check_bodies.Goals as goal

pub returns-in_err-rule : goal.returns-in_err-rule
returns-in_err-rule c =
    let module_context = c.args.module_context.now in
    let xs = c.as_slice-functions.result.now in
    let bs = c.as_slice-bodies.result.now in
    in_module (λ P. Decides c.from_residual.result P) module_context module_context.types.now xs bs c.args.module.now
    c.requires.types c.as_slice-functions.ensures c.as_slice-bodies.ensures
    (λ k at. refused c.from_residual.result c.in_err-rule.field-0.0 (IsTrue (nat_eq (length xs) (length bs))) (FunctionsTyped k module_context.types.now xs bs) c.from_residual.ensures.1 c.in_err-rule.ensures
    (λ h. (Decides-eqb (length xs) (length bs)).1 (same_length k module_context.types.now xs bs h)))

pub returns : goal.returns
returns c =
    let module_context = c.args.module_context.now in
    let xs = c.as_slice-functions.result.now in
    let bs = c.as_slice-bodies.result.now in
    let same_long = (Decides-eqb (length xs) (length bs)).0 c.in_ok-rule.ensures in
    in_module (λ P. P) module_context module_context.types.now xs bs c.args.module.now
    c.requires.types c.as_slice-functions.ensures c.as_slice-bodies.ensures
    (Remaining-none module_context module_context.types.now xs bs c.loop-i.i (omega (arith, same_long)) (omega arith) c.loop-i.invariant)
