use Rattle.std.proofs.Common.{◌≡◌, ℕ, List, [], ◌∷◌, length, refl, ap, ◌∙◌, sym, arith}
use Rattle.std.proofs.lemmas.List.{length-map}
use Rattle.byteorder.specs.Endian.{little_bytes}
use Rattle.wasm_store.specs.Bytes.{written}
use Rattle.wasi_bodies.specs.supplies.Texts.{texts_of}
use Rattle.wasi_bodies.specs.supplies.Rows.{ended_bytes}
use Rattle.wasi_bodies.proofs.checks.Chains.{goes_on, stops}
use Rattle.wasi_bodies.proofs.bodies.Answering.{answers_done, refusal_answers}
use Rattle.wasi_bodies.proofs.supplies.TextReferences.{same_ended, fits_ended}
use Rattle.wasi_bodies.proofs.supplies.texts.sizes_get.Goals as goal

pub returns : goal.returns
returns c = λ w.
    let m = c.args.memory.now in
    let ts = c.args.texts.now in
    let few = fits_ended ts c.requires in
    let count : List ℕ = little_bytes 4 (length (texts_of ts)) in
    let size : List ℕ = little_bytes 4 (ended_bytes (texts_of ts)) in
    let len : c.nul_terminated_len.result ≡ ended_bytes (texts_of ts) = omega (arith, same_ended ts, few, c.nul_terminated_len.ensures) in
    let first : c.write_bytes.new.memory ≡ written m c.args.count_at count =
    c.write_bytes.ensures.bytes ∙ ap (written m c.args.count_at) (c.le32.ensures ∙ ap (little_bytes 4) (sym (length-map ts _))) in
    let second : c.le32-2.result ≡ size = c.le32-2.ensures ∙ ap (little_bytes 4) len in
    answers_done _ w m w _ (record { world = w; fills = []; results = (c.args.count_at, count) ∷ (c.args.size_at, size) ∷ [] })
    (goes_on _ _ tt c.in_ok-check_range.ensures.range ∙ goes_on _ _ tt c.in_ok-check_range-2.ensures.range)
    refl (c.write_bytes-2.ensures.bytes ∙ λ i. written (first i) c.args.size_at (second i))

pub returns-in_err-check_range : goal.returns-in_err-check_range
returns-in_err-check_range c = λ w.
    let r = c.from_residual.result in
    let x = c.in_err-check_range.field-0.0 in
    let is_x = c.from_residual.ensures.1 in
    refusal_answers r x _ w c.args.memory.now is_x (stops _ _ _ c.in_err-check_range.ensures.range)

pub returns-in_err-check_range-2 : goal.returns-in_err-check_range-2
returns-in_err-check_range-2 c = λ w.
    let r = c.from_residual-in_err-check_range-2.result in
    let x = c.in_err-check_range-2.field-0.0 in
    let is_x = c.from_residual-in_err-check_range-2.ensures.1 in
    refusal_answers r x _ w c.args.memory.now is_x (goes_on _ _ tt c.in_ok-check_range.ensures.range ∙ stops _ _ _ c.in_err-check_range-2.ensures.range)
