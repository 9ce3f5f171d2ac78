use Rattle.std.proofs.Common.{◌∙◌}
use Rattle.wasi_bodies.proofs.checks.Chains.{goes_on, stops}
use Rattle.wasi_bodies.proofs.bodies.Answering.{refusal_told}
use Rattle.wasi_bodies.proofs.checks.allowed.Goals as goal

pub returns-in-Ok : goal.returns-in-Ok
returns-in-Ok c = λ w is.
    goes_on _ _ c.in_ok-descriptor.descriptor (c.in_ok-descriptor.ensures w is) ∙ (goes_on _ _ tt c.in_ok-check.ensures ∙ goes_on _ _ tt c.in-Ok.ensures)

pub returns-in-Err : goal.returns-in-Err
returns-in-Err c = λ w is.
    goes_on _ _ c.in_ok-descriptor.descriptor (c.in_ok-descriptor.ensures w is) ∙ (goes_on _ _ tt c.in_ok-check.ensures ∙ stops _ _ _ c.in-Err.ensures)

pub returns-in_err-check : goal.returns-in_err-check
returns-in_err-check c = λ w is.
    let r = c.from_residual-in_err-check.result in
    let x = c.in_err-check.field-0.0 in
    let is_x = c.from_residual-in_err-check.ensures.1 in
    refusal_told r x _ _ is_x (goes_on _ _ c.in_ok-descriptor.descriptor (c.in_ok-descriptor.ensures w is) ∙ stops _ _ _ c.in_err-check.ensures)

pub returns-in_err-descriptor : goal.returns-in_err-descriptor
returns-in_err-descriptor c = λ w is.
    let r = c.from_residual.result in
    let x = c.in_err-descriptor.field-0.0 in
    let is_x = c.from_residual.ensures.1 in
    refusal_told r x _ _ is_x (stops _ _ _ (c.in_err-descriptor.ensures w is))
