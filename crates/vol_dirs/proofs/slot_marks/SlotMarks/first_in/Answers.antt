use Rattle.std.proofs.Common.{◌<◌, inl, inr, length, get_or, false, sym, ◌∙◌, ap, arith}
use Rattle.std.proofs.lemmas.Bool.{cases_eq}
use Rattle.std.proofs.lemmas.List.{get_or_default}
use Rattle.vol_dirs.specs.SlotMarks.{flags_of}
use Rattle.vol_dirs.proofs.slot_marks.SlotMarks.first_in.Goals as goal

pub loop-slot-init : goal.loop-slot-init
loop-slot-init c k lt inside = c.requires.before k (omega (arith, lt)) inside

pub loop-slot-preserved : goal.loop-slot-preserved
loop-slot-preserved c k lt inside =
    let flags = flags_of c.args.self.now in
    elim (cases_eq k c.loop-slot.slot) [
      | inl same ↦ ap (λ j. get_or flags j false) same ∙ get_or_default flags c.loop-slot.slot false c.index.result.now (omega (arith, same, inside)) ∙ sym c.index.ensures ∙ c.if-not-index.false
      | inr other ↦ c.loop-slot.invariant k (omega (arith, lt, other)) inside
    ]

pub returns-then-not-index : goal.returns-then-not-index
returns-then-not-index c =
    let flags = flags_of c.args.self.now in
    let there : c.loop-slot.slot < length flags = omega arith in
    record {
      there = there;
      unmarked = get_or_default flags c.loop-slot.slot false c.index.result.now there ∙ sym c.index.ensures ∙ c.if-not-index.true;
      before = c.loop-slot.invariant;
    }

pub returns : goal.returns
returns c k lt inside = c.loop-slot.invariant k (omega (arith, lt, inside)) inside
