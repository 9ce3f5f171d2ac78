use Rattle.std.proofs.Common.{Option, refl, sym, ap, ◌∙◌}
use Rattle.wasi_bodies.specs.declared.streams.Terminals.{Terminals}
use Rattle.wasm_store.specs.Bytes.{written}
use Rattle.wasi_bodies.specs.Checks.{with_result}
use Rattle.wasi_bodies.specs.descriptors.Rows.{fdstat}
use Rattle.wasi_bodies.proofs.checks.Chains.{goes_on, stops}
use Rattle.wasi_bodies.proofs.bodies.Answering.{answers_done, refusal_answers}
use Rattle.wasi_bodies.proofs.descriptors.fd_fdstat_get.Goals as goal

pub returns : goal.returns
returns c = λ w is shown.
    let m = c.args.memory.now in
    let d = c.in_ok-descriptor.descriptor in
    answers_done _ w m w _ (with_result w c.args.result_at (fdstat w.interactive d))
    (goes_on _ _ d (c.in_ok-descriptor.ensures w is) ∙ goes_on _ _ tt c.in_ok-check_range.ensures.range)
    refl (c.write_bytes.ensures.bytes ∙ ap (written m c.args.result_at) (c.fdstat.ensures ∙ ap (λ (t : Option Terminals). fdstat t d) (sym shown)))

pub returns-in_err-check_range : goal.returns-in_err-check_range
returns-in_err-check_range c = λ w is shown.
    let r = c.from_residual-in_err-check_range.result in
    let x = c.in_err-check_range.field-0.0 in
    let is_x = c.from_residual-in_err-check_range.ensures.1 in
    refusal_answers r x _ w c.args.memory.now is_x (goes_on _ _ c.in_ok-descriptor.descriptor (c.in_ok-descriptor.ensures w is) ∙ stops _ _ _ c.in_err-check_range.ensures.range)
