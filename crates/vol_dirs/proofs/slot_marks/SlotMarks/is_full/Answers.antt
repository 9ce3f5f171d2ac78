use Rattle.std.proofs.Common.{◌-◌, inl, inr, get_or, false, sym, ◌∙◌, ap, arith}
use Rattle.std.proofs.lemmas.Bool.{cases_eq}
use Rattle.std.proofs.lemmas.List.{get_or_default}
use Rattle.vol_dirs.specs.SlotMarks.{flags_of}
use Rattle.vol_dirs.proofs.slot_marks.SlotMarks.is_full.Goals as goal

pub loop-end-preserved : goal.loop-end-preserved
loop-end-preserved c =
    let flags = flags_of c.args.self.now in
    let inv = c.loop-end.invariant in
    record {
      within = omega (arith, inv.within);
      marked = λ k le lt inside. elim (cases_eq k (c.loop-end.end - 1)) [
        | inl same ↦ ap (λ j. get_or flags j false) same ∙ get_or_default flags (c.loop-end.end - 1) false c.index.result.now (omega (arith, same, inside)) ∙ sym c.index.ensures ∙ c.if-not-index.false
        | inr other ↦ inv.marked k (omega (arith, le, other)) lt inside
      ];
    }

pub returns : goal.returns
returns c full k le lt inside = c.loop-end.invariant.marked k (omega (arith, le)) lt inside
