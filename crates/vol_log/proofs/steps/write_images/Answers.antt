use Rattle.std.proofs.Common.{◌+◌, ◌≤◌, ◌<◌, ◌∙◌, ap, length, take, arith}
use Rattle.std.proofs.lemmas.Grind.{common_steps}
use Rattle.vol_log.specs.Batch.{logged}
use Rattle.vol_log.specs.internal.Batch.{numbers}
use Rattle.vol_log.specs.internal.Steps.{OnlyImagesChange}
use Rattle.vol_log.proofs.Moments.{leaves_step, both_then, counts_one, at_ok}
use Rattle.vol_log.proofs.Images.{wrote_image, outside_joins, logged_more}
use Rattle.vol_log.proofs.steps.write_images.Goals as goal
use Rattle.vol_log.specs.declared.layout.TheConstants.{FIRST_AFTER_LOG}

pub loop-i-preserved : goal.loop-i-preserved
loop-i-preserved g c =
    let batch = c.args.batch.now in
    let i = c.loop-i.i in
    let lt : i < length batch = c.loop-i-test.true in
    let low : 2 ≤ 2 + i = omega arith in
    let high : 2 + i < FIRST_AFTER_LOG = omega (arith, c.requires.few) in
    let so_far = c.loop-i.invariant in
    let e = c.write.ensures in
    let w = c.in_ok-write.ensures.written in
    record {
      logged = λ h. ap (λ m. logged (numbers (take (i + 1) batch)) 2 m) (w (so_far.honest.0 h)) ∙ logged_more batch i _ _ lt (so_far.logged h);
      beside = λ h. outside_joins _ _ _ (so_far.beside h) (wrote_image _ _ low high _ _ (e.seen (so_far.honest.0 h)));
      crash = λ h. leaves_step _ _ _ OnlyImagesChange _ (wrote_image _ _ low high) outside_joins (so_far.crash h) (e.crash (so_far.honest.0 h));
      honest = both_then so_far.honest e.honest;
      goes_on = λ end le first from. e.goes_on end (omega (arith, high, le)) first (so_far.goes_on end le first from);
      size = e.size ∙ so_far.size;
      failures = c.in_ok-write.ensures.failures ∙ so_far.failures;
    }

pub returns-in_err-write-clause-logged : goal.returns-in_err-write-clause-logged
returns-in_err-write-clause-logged g c h = at_ok c.from_residual.result _ c.from_residual.ensures.0

pub returns-in_err-write-clause-honest : goal.returns-in_err-write-clause-honest
returns-in_err-write-clause-honest g c = both_then c.loop-i.invariant.honest c.write.ensures.honest

pub returns-in_err-write-clause-size : goal.returns-in_err-write-clause-size
returns-in_err-write-clause-size g c = c.write.ensures.size ∙ c.loop-i.invariant.size

pub returns-in_err-write-clause-failures : goal.returns-in_err-write-clause-failures
returns-in_err-write-clause-failures g c = counts_one c.from_residual.result (g.D.Device.failures c.args.device.now) (g.D.Device.failures c.loop-i.device) (g.D.Device.failures c.write.new.self) c.from_residual.ensures.0 c.loop-i.invariant.failures c.in_err-write.ensures.failures

pub returns-in_err-write-clause-beside : goal.returns-in_err-write-clause-beside
returns-in_err-write-clause-beside g c h =
    let i = c.loop-i.i in
    let low : 2 ≤ 2 + i = omega arith in
    let high : 2 + i < FIRST_AFTER_LOG = omega (arith, c.requires.few, c.loop-i-test.true) in
    outside_joins _ _ _ (c.loop-i.invariant.beside h) (wrote_image _ _ low high _ _ (c.write.ensures.seen (c.loop-i.invariant.honest.0 h)))

pub returns-in_err-write-clause-crash : goal.returns-in_err-write-clause-crash
returns-in_err-write-clause-crash g c h =
    let i = c.loop-i.i in
    let low : 2 ≤ 2 + i = omega arith in
    let high : 2 + i < FIRST_AFTER_LOG = omega (arith, c.requires.few, c.loop-i-test.true) in
    leaves_step _ _ _ OnlyImagesChange _ (wrote_image _ _ low high) outside_joins (c.loop-i.invariant.crash h) (c.write.ensures.crash (c.loop-i.invariant.honest.0 h))

pub loop-i-init : goal.loop-i-init
loop-i-init c = grind (arith, common_steps)

pub returns-in_err-write-clause-goes_on : goal.returns-in_err-write-clause-goes_on
returns-in_err-write-clause-goes_on g c end le first from =
    let high : 2 + c.loop-i.i < end = omega (arith, c.requires.few, c.loop-i-test.true, le) in
    c.write.ensures.goes_on end high first (c.loop-i.invariant.goes_on end le first from)

pub returns-clause-goes_on : goal.returns-clause-goes_on
returns-clause-goes_on g c = c.loop-i.invariant.goes_on
