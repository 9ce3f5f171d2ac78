use Rattle.std.proofs.Common.{◌∙◌}
use Rattle.wasi_bodies.proofs.checks.Chains.{goes_on, stops}
use Rattle.wasi_bodies.proofs.bodies.Answering.{refusal_told}
use Rattle.wasi_paths.proofs.paths.renaming.both_allowed.Goals as goal

pub returns-in-Ok : goal.returns-in-Ok
returns-in-Ok c = λ w table.
    goes_on _ _ c.in_ok-source.source (c.in_ok-source.ensures w table) ∙ (goes_on _ _ c.in_ok-target.target (c.in_ok-target.ensures w table)
    ∙ (goes_on _ _ tt c.in_ok-check.ensures ∙ (goes_on _ _ tt c.in_ok-check-2.ensures ∙ (goes_on _ _ tt c.in_ok-check_rights.ensures ∙ goes_on _ _ tt c.in-Ok.ensures))))

pub returns-in_err-check-2 : goal.returns-in_err-check-2
returns-in_err-check-2 c = λ w is.
    let r = c.from_residual-in_err-check-2.result in
    let x = c.in_err-check-2.field-0.0 in
    let is_x = c.from_residual-in_err-check-2.ensures.1 in
    refusal_told r x _ _ is_x (goes_on _ _ c.in_ok-source.source (c.in_ok-source.ensures w is) ∙ (goes_on _ _ c.in_ok-target.target (c.in_ok-target.ensures w is) ∙ (goes_on _ _ tt c.in_ok-check.ensures ∙ stops _ _ _ c.in_err-check-2.ensures)))

pub returns-in_err-check_rights : goal.returns-in_err-check_rights
returns-in_err-check_rights c = λ w is.
    let r = c.from_residual-in_err-check_rights.result in
    let x = c.in_err-check_rights.field-0.0 in
    let is_x = c.from_residual-in_err-check_rights.ensures.1 in
    refusal_told r x _ _ is_x (goes_on _ _ c.in_ok-source.source (c.in_ok-source.ensures w is) ∙ (goes_on _ _ c.in_ok-target.target (c.in_ok-target.ensures w is) ∙ (goes_on _ _ tt c.in_ok-check.ensures ∙ (goes_on _ _ tt c.in_ok-check-2.ensures ∙ stops _ _ _ c.in_err-check_rights.ensures))))

pub returns-in-Err : goal.returns-in-Err
returns-in-Err c = λ w is. goes_on _ _ c.in_ok-source.source (c.in_ok-source.ensures w is) ∙ (goes_on _ _ c.in_ok-target.target (c.in_ok-target.ensures w is) ∙ (goes_on _ _ tt c.in_ok-check.ensures ∙ (goes_on _ _ tt c.in_ok-check-2.ensures ∙ (goes_on _ _ tt c.in_ok-check_rights.ensures ∙ stops _ _ _ c.in-Err.ensures))))

pub returns-in_err-check : goal.returns-in_err-check
returns-in_err-check c = λ w is.
    let r = c.from_residual-in_err-check.result in
    let x = c.in_err-check.field-0.0 in
    let is_x = c.from_residual-in_err-check.ensures.1 in
    refusal_told r x _ _ is_x (goes_on _ _ c.in_ok-source.source (c.in_ok-source.ensures w is) ∙ (goes_on _ _ c.in_ok-target.target (c.in_ok-target.ensures w is) ∙ stops _ _ _ c.in_err-check.ensures))

pub returns-in_err-target : goal.returns-in_err-target
returns-in_err-target c = λ w is.
    let r = c.from_residual-in_err-target.result in
    let x = c.in_err-target.field-0.0 in
    let is_x = c.from_residual-in_err-target.ensures.1 in
    refusal_told r x _ _ is_x (goes_on _ _ c.in_ok-source.source (c.in_ok-source.ensures w is) ∙ stops _ _ _ (c.in_err-target.ensures w is))

pub returns-in_err-source : goal.returns-in_err-source
returns-in_err-source c = λ w is.
    let r = c.from_residual.result in
    let x = c.in_err-source.field-0.0 in
    let is_x = c.from_residual.ensures.1 in
    refusal_told r x _ _ is_x (stops _ _ _ (c.in_err-source.ensures w is))
