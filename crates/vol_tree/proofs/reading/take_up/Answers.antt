use Rattle.std.proofs.Common.{◌+◌, ◌∙◌, length, true≢false, inl, refl, sym, ap, subst, arith}
use Rattle.std.proofs.lemmas.List.{length_push}
use Rattle.std.proofs.lemmas.Result.{IfOk-from_err, IfErr-weaker}
use Rattle.vol_log.proofs.Readings.{reads_same}
use Rattle.vol_body.specs.Survey.{AreInside}
use Rattle.vol_body.proofs.SurveyExits.{handed_on, failed_on, or_memory, no_device_failed}
use Rattle.vol_tree.proofs.Committing.{at_ok, on_ok}
use Rattle.vol_tree.proofs.OneTree.{limit_small}
use Rattle.vol_tree.proofs.reading.take_up.Goals as goal
use Rattle.vol_log.specs.declared.layout.TheConstants.{FIRST_AFTER_LOG}

pub is_placed-requires : goal.is_placed-requires
is_placed-requires g c = record { working = c.requires.can.working; named = c.requires.right.rules.name }

pub hold-requires : goal.hold-requires
hold-requires g c = record { first = c.requires.first; last = c.requires.last; free = c.requires.free; named = c.requires.right.rules.name }

pub survey-requires : goal.survey-requires
survey-requires g c = record {
  there = c.requires.can.there;
  pointers = c.requires.right.rules.pointers;
  small = omega (arith, c.requires.right.rules.size.small, limit_small c.args.numbers.now.version);
  inside = c.requires.within.inside;
}

pub add-requires : goal.add-requires
add-requires g c = c.requires.within.room

pub returns-then-not-is_placed : goal.returns-then-not-is_placed
returns-then-not-is_placed g c = record {
  adds = λ h. tt;
  within = tt;
  count = tt;
  placed = tt;
  names = tt;
  seats = tt;
  slots = refl;
  trimmed = λ h. tt;
  damaged = λ h is placed trimmed fits. true≢false (sym (c.is_placed.ensures.no placed) ∙ c.if-not-is_placed.true);
  refused = inl tt;
  reads = reads_same c.args.log.now;
  failed = c.requires.can.working;
}

pub returns-in_err-survey : goal.returns-in_err-survey
returns-in_err-survey g c =
    let r = c.from_residual.result in
    let is_err_now = c.from_residual.ensures.0 in
    let is = c.from_residual.ensures.1 in
    let x = c.in_err-survey.field-0.0 in
    let e = c.in_err-survey.ensures in
    record {
      adds = λ h. IfOk-from_err r _ is_err_now;
      within = IfOk-from_err r _ is_err_now;
      count = IfOk-from_err r _ is_err_now;
      placed = IfOk-from_err r _ is_err_now;
      names = IfOk-from_err r _ is_err_now;
      seats = IfOk-from_err r _ is_err_now;
      slots = c.hold.ensures.slots;
      trimmed = λ h. IfOk-from_err r _ is_err_now;
      damaged = λ h. handed_on r _ x is (λ damaged placed trimmed fits. e.damaged h damaged trimmed fits.inside);
      refused = handed_on r _ x is e.refused;
      reads = e.reads;
      failed = failed_on r x _ is e.failed;
    }

pub returns : goal.returns
returns g c =
    let r = c.add.result in
    let surveyed = c.in_ok-survey.ensures in
    let added = c.add.ensures in
    record {
      adds = λ h. on_ok r _ (λ ok. record {
        named = added.named ∙ surveyed.named h;
        parents = at_ok r _ added.parents ok;
        directories = at_ok r _ added.directories ok;
        reserved = at_ok r _ added.reserved ok;
      });
      within = on_ok r _ (λ ok. record {
        inside = subst (AreInside (FIRST_AFTER_LOG + c.args.numbers.now.slots) c.args.numbers.now.sectors) (sym added.named) surveyed.inside;
        room = at_ok r _ added.room ok;
      });
      count = on_ok r _ (λ ok. ap length (at_ok r _ added.parents ok) ∙ length_push c.args.found.now.parents.items c.args.entry.now.parent);
      placed = on_ok r _ (λ ok. c.is_placed.ensures.yes c.if-not-is_placed.false);
      names = on_ok r _ (λ ok. c.hold.ensures.names);
      seats = on_ok r _ (λ ok. c.hold.ensures.seats);
      slots = c.hold.ensures.slots;
      trimmed = λ h. on_ok r _ (λ ok. surveyed.trimmed h);
      damaged = λ h. IfErr-weaker r _ _ (λ fault more is placed trimmed fits. omega (arith, more is, fits.room)) added.damaged;
      refused = IfErr-weaker r _ _ or_memory added.refused;
      reads = surveyed.reads;
      failed = surveyed.failed ∙ sym (no_device_failed r added.refused);
    }
