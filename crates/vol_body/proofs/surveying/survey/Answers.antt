use Rattle.std.proofs.Common.{◌≡◌, ◌∙◌, true, false, true≢false, inl, inr, refl, sym, subst}
use Rattle.std.proofs.lemmas.Result.{IfOk-from_err}
use Rattle.vol_sector.specs.Disk.{Image}
use Rattle.vol_sector.specs.declared.fault.VolumeFault.TheVariants as faults
use Rattle.vol_log.specs.Log.{view, has_failed}
use Rattle.vol_log.proofs.Readings.{reads_same, reads_then}
use Rattle.vol_body.specs.Survey.{AreInside}
use Rattle.vol_body.specs.internal.Surveying.{EndsInZeros, NamesBelow}
use Rattle.vol_body.proofs.Surveyed.{names_below, zeros_past, ends_trimmed}
use Rattle.vol_body.proofs.SurveyExits.{handed_on, failed_on, device_not_damaged}
use Rattle.vol_body.proofs.surveying.survey.Goals as goal

pub returns-then-failed : goal.returns-then-failed
returns-then-failed g c = record {
  named = λ h. tt;
  trimmed = λ h. tt;
  inside = tt;
  damaged = λ h is. device_not_damaged is;
  refused = inr (inl refl);
  reads = reads_same c.args.log.now;
  failed = sym c.failed.ensures ∙ c.if-failed.true;
  idle = λ failed. (refl, refl);
}

pub returns-in_err-survey_sectors : goal.returns-in_err-survey_sectors
returns-in_err-survey_sectors g c =
    let r = c.from_residual.result in
    let is_err_now = c.from_residual.ensures.0 in
    let is = c.from_residual.ensures.1 in
    let x = c.in_err-survey_sectors.field-0.0 in
    let e = c.in_err-survey_sectors.ensures in
    let working : has_failed c.args.log.now ≡ false = sym c.failed.ensures ∙ c.if-failed.false in
    record {
      named = λ h. IfOk-from_err r _ is_err_now;
      trimmed = λ h. IfOk-from_err r _ is_err_now;
      inside = IfOk-from_err r _ is_err_now;
      damaged = λ h. handed_on r _ x is (λ damaged trimmed all. e.damaged h damaged trimmed.past all);
      refused = handed_on r _ x is e.refused;
      reads = e.reads;
      failed = failed_on r x _ is e.failed;
      idle = λ failed. absurd (true≢false (sym failed ∙ working));
    }

pub returns-in_err-ends_in_zeros : goal.returns-in_err-ends_in_zeros
returns-in_err-ends_in_zeros g c =
    let r = c.from_residual-in_err-ends_in_zeros.result in
    let is_err_now = c.from_residual-in_err-ends_in_zeros.ensures.0 in
    let is = c.from_residual-in_err-ends_in_zeros.ensures.1 in
    let first = c.in_ok-survey_sectors.ensures in
    let second = c.in_err-ends_in_zeros.ensures in
    let working : has_failed c.args.log.now ≡ false = sym c.failed.ensures ∙ c.if-failed.false in
    record {
      named = λ h. IfOk-from_err r _ is_err_now;
      trimmed = λ h. IfOk-from_err r _ is_err_now;
      inside = IfOk-from_err r _ is_err_now;
      damaged = λ h. handed_on r _ faults.Device is (λ damaged. device_not_damaged damaged);
      refused = handed_on r _ faults.Device is (inr (inl refl));
      reads = reads_then c.args.log.now c.survey_sectors.new.log c.ends_in_zeros.new.log first.failed first.reads second.reads;
      failed = failed_on r faults.Device _ is second.failed;
      idle = λ failed. absurd (true≢false (sym failed ∙ working));
    }

pub returns-then-not-branch : goal.returns-then-not-branch
returns-then-not-branch g c =
    let content = view c.args.log.now in
    let e = c.args.entry.now in
    let first = c.in_ok-survey_sectors.ensures in
    let second = c.in_ok-ends_in_zeros.ensures in
    let working : has_failed c.args.log.now ≡ false = sym c.failed.ensures ∙ c.if-failed.false in
    record {
      named = λ h. tt;
      trimmed = λ h. tt;
      inside = tt;
      damaged = λ h is trimmed all.
          let same = first.reads.view h in
          let below = names_below content e c.args.first c.args.end c.args.named.now.items all in
          let yes : c.in_ok-ends_in_zeros.field-0 ≡ true = second.no (first.reads.honest.0 h) (subst (λ (m : Image). NamesBelow m e c.args.end) (sym same) below)
          (subst (λ (m : Image). EndsInZeros m e) (sym same) (ends_trimmed content e c.requires.small trimmed)) in
          true≢false (sym yes ∙ c.if-not-branch.true);
      refused = inl tt;
      reads = reads_then c.args.log.now c.survey_sectors.new.log c.ends_in_zeros.new.log first.failed first.reads second.reads;
      failed = second.failed;
      idle = λ failed. absurd (true≢false (sym failed ∙ working));
    }

pub returns : goal.returns
returns g c =
    let content = view c.args.log.now in
    let e = c.args.entry.now in
    let first = c.in_ok-survey_sectors.ensures in
    let second = c.in_ok-ends_in_zeros.ensures in
    let working : has_failed c.args.log.now ≡ false = sym c.failed.ensures ∙ c.if-failed.false in
    record {
      named = λ h. let pushed = first.pushes h in pushed.named;
      trimmed = λ h.
          let same = first.reads.view h in
          let pushed = first.pushes h in
          let past = first.past h in
          let below = names_below content e c.args.first c.args.end c.args.named.now.items (subst (AreInside c.args.first c.args.end) pushed.named pushed.inside) in
          let ends = second.yes (first.reads.honest.0 h) (subst (λ (m : Image). NamesBelow m e c.args.end) (sym same) below) c.if-not-branch.false in
          record { past = past; zeros = zeros_past content e past (subst (λ (m : Image). EndsInZeros m e) same ends) };
      inside = first.inside;
      damaged = λ h. tt;
      refused = tt;
      reads = reads_then c.args.log.now c.survey_sectors.new.log c.ends_in_zeros.new.log first.failed first.reads second.reads;
      failed = second.failed;
      idle = λ failed. absurd (true≢false (sym failed ∙ working));
    }
