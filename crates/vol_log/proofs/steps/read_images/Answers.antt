use Rattle.std.proofs.Common.{◌∙◌, ◌<◌, ◌+◌, ap, length, arith}
use Rattle.std.proofs.lemmas.Grind.{common_steps}
use Rattle.vol_log.proofs.Moments.{leaves_quiet, both_then, counts_one, at_ok}
use Rattle.vol_log.proofs.Read.{numbers_set, read_more, all_read}
use Rattle.vol_log.proofs.steps.read_images.Goals as goal

pub loop-i-preserved : goal.loop-i-preserved
loop-i-preserved g c =
    let now = c.loop-i.batch in
    let i = c.loop-i.i in
    let so_far = c.loop-i.invariant in
    let e = c.read.ensures in
    let lt : i < length now = omega arith in
    let a = g.D.Device.disk c.args.device.now in
    let b = g.D.Device.disk c.loop-i.device in
    let d = g.D.Device.disk c.read.new.self in
    record {
      read = λ h. read_more now i _ c.in_ok-staged.field-0 a.seen lt (c.in_ok-staged.ensures.bytes (so_far.honest.0 h) ∙ ap (λ (m : _). m (2 + i)) (so_far.seen h)) (so_far.read h);
      sectors = numbers_set now i _ lt ∙ so_far.sectors;
      seen = λ h. e.seen (so_far.honest.0 h) ∙ so_far.seen h;
      crash = λ h. leaves_quiet a b d _ (so_far.crash h) (e.crash (so_far.honest.0 h));
      honest = both_then so_far.honest e.honest;
      goes_on = λ end first from. e.goes_on end first (so_far.goes_on end first from);
      size = e.size ∙ so_far.size;
      failures = c.in_ok-staged.ensures.failures ∙ so_far.failures;
    }

pub returns-clause-read : goal.returns-clause-read
returns-clause-read g c h =
    let now = c.loop-i.batch in
    all_read now c.args.batch.now (g.D.Device.disk c.args.device.now).seen c.loop-i.invariant.sectors (λ j lt. c.loop-i.invariant.read h j (omega arith))

pub returns-in_err-staged-clause-read : goal.returns-in_err-staged-clause-read
returns-in_err-staged-clause-read g c h = at_ok c.from_residual.result _ c.from_residual.ensures.0

pub returns-in_err-staged-clause-honest : goal.returns-in_err-staged-clause-honest
returns-in_err-staged-clause-honest g c = both_then c.loop-i.invariant.honest c.read.ensures.honest

pub returns-in_err-staged-clause-size : goal.returns-in_err-staged-clause-size
returns-in_err-staged-clause-size g c = c.read.ensures.size ∙ c.loop-i.invariant.size

pub returns-in_err-staged-clause-failures : goal.returns-in_err-staged-clause-failures
returns-in_err-staged-clause-failures g c = counts_one c.from_residual.result (g.D.Device.failures c.args.device.now) (g.D.Device.failures c.loop-i.device) (g.D.Device.failures c.read.new.self) c.from_residual.ensures.0 c.loop-i.invariant.failures c.in_err-staged.ensures.failures

pub returns-in_err-staged-clause-seen : goal.returns-in_err-staged-clause-seen
returns-in_err-staged-clause-seen g c h = c.read.ensures.seen (c.loop-i.invariant.honest.0 h) ∙ c.loop-i.invariant.seen h

pub returns-in_err-staged-clause-crash : goal.returns-in_err-staged-clause-crash
returns-in_err-staged-clause-crash g c h =
    leaves_quiet (g.D.Device.disk c.args.device.now) (g.D.Device.disk c.loop-i.device) (g.D.Device.disk c.read.new.self) (λ m. ⊥) (c.loop-i.invariant.crash h) (c.read.ensures.crash (c.loop-i.invariant.honest.0 h))

pub returns-in_err-staged-clause-sectors : goal.returns-in_err-staged-clause-sectors
returns-in_err-staged-clause-sectors c = grind (arith, common_steps)

pub returns-in_err-staged-clause-goes_on : goal.returns-in_err-staged-clause-goes_on
returns-in_err-staged-clause-goes_on g c end first from = c.read.ensures.goes_on end first (c.loop-i.invariant.goes_on end first from)

pub returns-clause-goes_on : goal.returns-clause-goes_on
returns-clause-goes_on g c = c.loop-i.invariant.goes_on
