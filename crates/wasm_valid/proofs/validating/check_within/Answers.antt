use Rattle.wasm_valid.specs.Validity.{IsValid}
use Rattle.wasm_valid.specs.internal.Rules.{ListsFit}
use Rattle.wasm_valid.proofs.Refusals.{refused}
use Rattle.wasm_valid.proofs.Assembled.{lists_of, start_settled, settled}
use Rattle.wasm_valid.proofs.validating.check_within.Goals as goal

pub returns-in_err-check_lists : goal.returns-in_err-check_lists
returns-in_err-check_lists c =
    let m = c.args.module.now in
    refused c.from_residual.result c.in_err-check_lists.field-0.0 (ListsFit m) (IsValid m) c.from_residual.ensures.1 c.in_err-check_lists.ensures (lists_of m)

pub returns-in_err-check_start : goal.returns-in_err-check_start
returns-in_err-check_start c =
    let m = c.args.module.now in
    let never = start_settled m c.args.module_context.now c.in_err-check_start.field-0.0 c.requires.types c.requires.module_context c.in_err-check_start.ensures in
    refused c.from_residual-in_err-check_start.result c.in_err-check_start.field-0.0 (IsValid m) (IsValid m) c.from_residual-in_err-check_start.ensures.1 never (λ v. v)

pub returns : goal.returns
returns c =
    settled c.args.module.now c.args.module_context.now c.check_bodies.result c.requires.limits c.requires.globals c.requires.types c.in_ok-check_lists.ensures c.requires.module_context c.in_ok-check_start.ensures c.check_bodies.ensures
