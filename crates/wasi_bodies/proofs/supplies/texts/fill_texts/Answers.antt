use Rattle.std.proofs.Common.{◌≡◌, ℕ, ◌+◌, ◌++◌, List, [], ◌∷◌, get_or, length, take, ap, ◌∙◌, sym, arith, append_assoc}
use denote.Ref.{Bor}
use Rattle.wasi_bodies.specs.supplies.Texts.{texts_of}
use Rattle.wasi_bodies.specs.supplies.Rows.{ended}
use Rattle.wasi_bodies.proofs.supplies.TextReferences.{ended_more, sum_more, within_all}
use Rattle.wasi_bodies.proofs.supplies.texts.fill_texts.Goals as goal

pub loop-text-preserved : goal.loop-text-preserved
loop-text-preserved c =
    let i = c.loop-text.text-index in
    let ts = c.args.texts.now in
    let none : Bor (List ℕ) = record { ref_ptr = (0, 0); now = [] } in
    let more = ended_more ts i none c.loop-text-test.true in
    let sum = sum_more ts i none c.loop-text-test.true in
    let inv = c.loop-text.invariant in
    let place = c.loop-text.place in
    let text = (get_or ts i none).now in
    record {
      place = omega (arith, inv.place, sum);
      filled =
          ap (λ (n : ℕ). take n c.append_at-in-loop-text.new.part) (let n : place + (length text + 1) ≡ place + length text + 1 = omega arith in n)
          ∙ (c.append_at-in-loop-text.ensures
          ∙ ((λ j. c.append_at.ensures j ++ 0 ∷ [])
          ∙ ((λ j. (inv.filled j ++ text) ++ 0 ∷ []) ∙ (append_assoc (ended (texts_of (take i ts))) text (0 ∷ []) ∙ sym more))));
    }

pub overflow_add-place-in-loop-text-2 : goal.overflow_add-place-in-loop-text-2
overflow_add-place-in-loop-text-2 c =
    let within = within_all c.args.texts.now c.loop-text.text-index (record { ref_ptr = (0, 0); now = [] }) c.loop-text-test.true in
    record { fits = omega (arith, within, c.loop-text.invariant.place, c.requires) }

pub overflow_add-place : goal.overflow_add-place
overflow_add-place c =
    let within = within_all c.args.texts.now c.loop-text.text-index (record { ref_ptr = (0, 0); now = [] }) c.loop-text-test.true in
    record { fits = omega (arith, within, c.loop-text.invariant.place, c.requires) }

pub append_at-requires-in-loop-text : goal.append_at-requires-in-loop-text
append_at-requires-in-loop-text c =
    let within = within_all c.args.texts.now c.loop-text.text-index (record { ref_ptr = (0, 0); now = [] }) c.loop-text-test.true in
    omega (arith, within, c.loop-text.invariant.place, c.requires, c.loop-text.auto.part, c.append_at.auto.part)
