use Rattle.std.proofs.Common.{refl, ap, ◌∙◌}
use Rattle.wasm_store.specs.Bytes.{written}
use Rattle.byteorder.specs.Endian.{little_bytes}
use Rattle.wasi_bodies.specs.Checks.{with_result}
use Rattle.wasi_bodies.proofs.checks.Chains.{goes_on}
use Rattle.wasi_bodies.proofs.bodies.Answering.{answers_done}
use Rattle.wasi_bodies.proofs.supplies.clocks.clock_res_get.Goals as goal

pub returns : goal.returns
returns c = λ w.
    let m = c.args.memory.now in
    answers_done _ w m w _ (with_result w c.args.result_at (little_bytes 8 1))
    (goes_on _ _ tt c.in_ok-check_that.ensures.meaning ∙ goes_on _ _ tt c.in_ok-check_range.ensures.range)
    refl (c.write_bytes.ensures.bytes ∙ ap (written m c.args.result_at) c.le64.ensures)
