use Rattle.std.proofs.Common.{refl, ◌∙◌, arith}
use Rattle.std.proofs.lemmas.Bool.{leb-true}
use Rattle.wasi_bodies.specs.Checks.{with_result}
use Rattle.wasi_bodies.proofs.checks.Chains.{goes_on, stops}
use Rattle.wasi_bodies.proofs.bodies.Answering.{answers_done, refusal_answers}
use Rattle.wasi_bodies.proofs.descriptors.fd_prestat_dir_name.Goals as goal

pub returns : goal.returns
returns c = λ w is.
    let m = c.args.memory.now in
    let d = c.in_ok-descriptor.descriptor in
    let name = c.in_ok-name.name.now in
    answers_done _ w m w _ (with_result w c.args.path name)
    (goes_on _ _ d (c.in_ok-descriptor.ensures w is) ∙ (goes_on _ _ name c.in_ok-name.ensures ∙ (goes_on _ _ tt c.in_ok-check_range.ensures.range
    ∙ goes_on _ _ tt c.in_ok-check_that.ensures.meaning)))
    refl c.write_bytes.ensures.bytes

pub returns-in_err-check_that : goal.returns-in_err-check_that
returns-in_err-check_that c = λ w is.
    let r = c.from_residual-in_err-check_that.result in
    let x = c.in_err-check_that.field-0.0 in
    let is_x = c.from_residual-in_err-check_that.ensures.1 in
    refusal_answers r x _ w c.args.memory.now is_x (goes_on _ _ c.in_ok-descriptor.descriptor (c.in_ok-descriptor.ensures w is) ∙ (goes_on _ _ c.in_ok-name.name.now c.in_ok-name.ensures ∙ (goes_on _ _ tt c.in_ok-check_range.ensures.range ∙ stops _ _ _ c.in_err-check_that.ensures.meaning)))

pub returns-in_err-check_range : goal.returns-in_err-check_range
returns-in_err-check_range c = λ w is.
    let r = c.from_residual-in_err-check_range.result in
    let x = c.in_err-check_range.field-0.0 in
    let is_x = c.from_residual-in_err-check_range.ensures.1 in
    refusal_answers r x _ w c.args.memory.now is_x (goes_on _ _ c.in_ok-descriptor.descriptor (c.in_ok-descriptor.ensures w is) ∙ (goes_on _ _ c.in_ok-name.name.now c.in_ok-name.ensures ∙ stops _ _ _ c.in_err-check_range.ensures.range))

pub write_bytes-requires : goal.write_bytes-requires
write_bytes-requires c = omega (arith, c.in_ok-check_range.ensures.inside, leb-true _ _ c.in_ok-check_that.ensures.passed)

pub returns-in_err-name : goal.returns-in_err-name
returns-in_err-name c = λ w is.
    let r = c.from_residual-in_err-name.result in
    let x = c.in_err-name.field-0.0 in
    let is_x = c.from_residual-in_err-name.ensures.1 in
    refusal_answers r x _ w c.args.memory.now is_x (goes_on _ _ c.in_ok-descriptor.descriptor (c.in_ok-descriptor.ensures w is) ∙ stops _ _ _ c.in_err-name.ensures)
