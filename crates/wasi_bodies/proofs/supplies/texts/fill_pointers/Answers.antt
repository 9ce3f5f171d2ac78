use Rattle.std.proofs.Common.{◌≡◌, ℕ, ◌+◌, ◌++◌, List, [], length, take, ap, ◌∙◌, sym, arith}
use denote.Ref.{Bor}
use Rattle.byteorder.specs.Endian.{little_bytes}
use Rattle.wasi_bodies.specs.supplies.Texts.{ended_bytes}
use Rattle.wasi_bodies.proofs.supplies.TextReferences.{pointers_more, sum_more, within_all}
use Rattle.wasi_bodies.proofs.supplies.texts.fill_pointers.Goals as goal

pub loop-text-preserved : goal.loop-text-preserved
loop-text-preserved c =
    let i = c.loop-text.text-index in
    let ts = c.args.texts.now in
    let none : Bor (List ℕ) = record { ref_ptr = (0, 0); now = [] } in
    let more = pointers_more c.args.first ts i none c.loop-text-test.true in
    let sum = sum_more ts i none c.loop-text-test.true in
    let inv = c.loop-text.invariant in
    let four : length c.low32.result ≡ 4 = ap length c.low32.ensures in
    let low : c.low32.result ≡ little_bytes 4 (c.args.first + ended_bytes (take i ts)) = c.low32.ensures ∙ ap (little_bytes 4) inv.pointer in
    record {
      place = omega (arith, inv.place);
      pointer = omega (arith, inv.pointer, sum);
      filled = ap (λ (n : ℕ). take (c.loop-text.place + n) c.append_at.new.part) (sym four)
          ∙ (c.append_at.ensures ∙ ((λ j. inv.filled j ++ low j) ∙ sym more));
    }

pub overflow_add-pointer-in-loop-text : goal.overflow_add-pointer-in-loop-text
overflow_add-pointer-in-loop-text c =
    let within = within_all c.args.texts.now c.loop-text.text-index (record { ref_ptr = (0, 0); now = [] }) c.loop-text-test.true in
    record { fits = omega (arith, within, c.loop-text.invariant.pointer, c.requires.fits) }
