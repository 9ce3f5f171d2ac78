use Rattle.std.proofs.Common.{refl, ap, ◌∙◌}
use Rattle.wasm_store.specs.Bytes.{written}
use Rattle.byteorder.specs.Endian.{little_bytes}
use Rattle.wasi_bodies.specs.Checks.{with_result}
use Rattle.wasi_bodies.proofs.checks.Chains.{goes_on, stops}
use Rattle.wasi_bodies.proofs.bodies.Answering.{answers_done, refusal_answers}
use Rattle.wasi_bodies.proofs.descriptors.positions.fd_tell.Goals as goal

pub returns : goal.returns
returns c = λ w is.
    let m = c.args.memory.now in
    let d = c.in_ok-descriptor.descriptor in
    let o = c.in_ok-opened.opened in
    answers_done _ w m w _ (with_result w c.args.result_at (little_bytes 8 o.position))
    (goes_on _ _ d (c.in_ok-descriptor.ensures w is) ∙ (goes_on _ _ tt c.in_ok-check.ensures ∙ (goes_on _ _ tt c.in_ok-check_tell.ensures
    ∙ (goes_on _ _ tt c.in_ok-check_range.ensures.range ∙ goes_on _ _ o c.in_ok-opened.ensures))))
    refl (c.write_bytes.ensures.bytes ∙ ap (written m c.args.result_at) c.le64.ensures)

pub returns-in_err-check_range : goal.returns-in_err-check_range
returns-in_err-check_range c = λ w is.
    let r = c.from_residual-in_err-check_range.result in
    let x = c.in_err-check_range.field-0.0 in
    let is_x = c.from_residual-in_err-check_range.ensures.1 in
    refusal_answers r x _ w c.args.memory.now is_x (goes_on _ _ c.in_ok-descriptor.descriptor (c.in_ok-descriptor.ensures w is) ∙ (goes_on _ _ tt c.in_ok-check.ensures ∙ (goes_on _ _ tt c.in_ok-check_tell.ensures ∙ stops _ _ _ c.in_err-check_range.ensures.range)))

pub returns-in_err-check_tell : goal.returns-in_err-check_tell
returns-in_err-check_tell c = λ w is.
    let r = c.from_residual-in_err-check_tell.result in
    let x = c.in_err-check_tell.field-0.0 in
    let is_x = c.from_residual-in_err-check_tell.ensures.1 in
    refusal_answers r x _ w c.args.memory.now is_x (goes_on _ _ c.in_ok-descriptor.descriptor (c.in_ok-descriptor.ensures w is) ∙ (goes_on _ _ tt c.in_ok-check.ensures ∙ stops _ _ _ c.in_err-check_tell.ensures))

pub returns-in_err-check : goal.returns-in_err-check
returns-in_err-check c = λ w is.
    let r = c.from_residual-in_err-check.result in
    let x = c.in_err-check.field-0.0 in
    let is_x = c.from_residual-in_err-check.ensures.1 in
    refusal_answers r x _ w c.args.memory.now is_x (goes_on _ _ c.in_ok-descriptor.descriptor (c.in_ok-descriptor.ensures w is) ∙ stops _ _ _ c.in_err-check.ensures)
