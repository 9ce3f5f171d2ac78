use Rattle.std.proofs.Common.{Bool, ap, sym, ◌∙◌}
use Rattle.wasm_store.specs.Bytes.{written}
use Rattle.wasi_bodies.specs.supplies.Random.{Supply, has_left, next_bytes, after_next}
use Rattle.wasi_bodies.specs.Checks.{guard}
use Rattle.wasi_bodies.proofs.checks.Chains.{goes_on}
use Rattle.wasi_bodies.proofs.bodies.Answering.{answers_done}
use Rattle.wasi_bodies.proofs.supplies.random.random_get.Goals as goal

pub returns : goal.returns
returns c = λ w is.
    let m = c.args.memory.now in
    let len = c.args.len in
    answers_done _ w m _ _ _
    (goes_on _ _ tt c.in_ok-check_range.ensures.range
    ∙ goes_on _ _ tt (ap (λ (s : Supply). guard (has_left len s) 6) is ∙ ap (λ (b : Bool). guard b 6) (sym c.is_enough.ensures) ∙ c.in_ok-check_that.ensures.meaning))
    (ap (λ (s : Supply). record w { random = s }) (c.write_random.ensures.moves_on ∙ ap (after_next len) (sym is)))
    (c.write_random.ensures.bytes ∙ ap (λ (s : Supply). written m c.args.buffer (next_bytes len s)) (sym is))
