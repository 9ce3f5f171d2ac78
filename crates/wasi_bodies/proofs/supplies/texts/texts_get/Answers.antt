use Rattle.std.proofs.Common.{[], ◌∷◌, refl, sym, ap, ◌∙◌}
use Rattle.wasm_store.specs.Bytes.{written}
use Rattle.wasi_bodies.specs.supplies.Texts.{texts_of}
use Rattle.wasi_bodies.specs.supplies.Rows.{pointers, ended}
use Rattle.wasi_bodies.specs.Checks.{range}
use Rattle.wasi_bodies.proofs.checks.Chains.{goes_on}
use Rattle.wasi_bodies.proofs.bodies.Answering.{answers_done}
use Rattle.wasi_bodies.proofs.supplies.texts.texts_get.Goals as goal

pub returns : goal.returns
returns c = λ w.
    let m = c.args.memory.now in
    let ts = texts_of c.args.texts.now in
    let buffer = c.args.buffer in
    answers_done _ w m w _ (record { world = w; fills = []; results = (c.args.at, pointers buffer ts) ∷ (buffer, ended ts) ∷ [] })
    (goes_on _ _ tt (ap (range m c.args.at) (sym c.pointers_len.ensures) ∙ c.in_ok-check_range.ensures.range)
    ∙ goes_on _ _ tt (ap (range m buffer) (sym c.texts_len.ensures) ∙ c.in_ok-check_range-2.ensures.range))
    refl (c.write_texts.ensures.bytes ∙ ap (λ m. written m buffer (ended ts)) c.write_pointers.ensures.bytes)
