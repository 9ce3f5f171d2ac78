use Rattle.wasi_bodies.proofs.bodies.Answering.{refusal_told, last_told}
use Rattle.wasi_bodies.proofs.checks.Chains.{goes_on, stops}
use Rattle.wasi_bodies.proofs.checks.entry_at.Goals as goal

pub returns : goal.returns
returns c = λ w is. last_told _ _ _ (goes_on _ _ c.in_ok-descriptor.descriptor (c.in_ok-descriptor.ensures w is)) c.opened_of.ensures

pub returns-in_err-descriptor : goal.returns-in_err-descriptor
returns-in_err-descriptor c = λ w is.
    let r = c.from_residual.result in
    let x = c.in_err-descriptor.field-0.0 in
    let is_x = c.from_residual.ensures.1 in
    refusal_told r x _ _ is_x (stops _ _ _ (c.in_err-descriptor.ensures w is))
