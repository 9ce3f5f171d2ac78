use Rattle.std.proofs.Common.{◌≡◌, ◌∙◌, false, true≢false, refl, sym, arith}
use Rattle.vol_body.proofs.Steps.{on_err}
use Rattle.vol_log.specs.Log.{has_failed}
use Rattle.vol_log.proofs.Readings.{reads_same}
use Rattle.std.proofs.lemmas.Result.{IfOk-from_err}
use Rattle.vol_body.proofs.reading.read_at.Goals as goal

pub returns-then-failed : goal.returns-then-failed
returns-then-failed g c = record {
  count = tt;
  bytes = λ h names. tt;
  beginning = λ h names. (0, omega arith, refl);
  reads = reads_same c.args.log.now;
  failed = sym c.failed.ensures ∙ c.if-failed.true;
  idle = λ failed. (refl, refl);
}

pub returns-then-count-eq0 : goal.returns-then-count-eq0
returns-then-count-eq0 g c =
    let working : has_failed c.args.log.now ≡ false = sym c.failed.ensures ∙ c.if-failed.false in
    record {
      count = sym c.if-count-eq0.true ∙ c.readable-count.ensures;
      bytes = λ h names. refl;
      beginning = λ h names. tt;
      reads = reads_same c.args.log.now;
      failed = working;
      idle = λ failed. absurd (true≢false (sym failed ∙ working));
    }

pub read_some-requires : goal.read_some-requires
read_some-requires g c = record {
  some = omega (arith, c.if-count-eq0.false);
  fits = omega (arith, c.readable-count.ensures);
  within = omega (arith, c.readable-count.ensures, c.if-count-eq0.false);
  small = c.requires.small;
  there = c.requires.there;
  working = sym c.failed.ensures ∙ c.if-failed.false;
}

pub returns-in_err-read_some : goal.returns-in_err-read_some
returns-in_err-read_some g c =
    let r = c.from_residual.result in
    let is_err_now = c.from_residual.ensures.0 in
    let e = c.in_err-read_some.ensures in
    let working : has_failed c.args.log.now ≡ false = sym c.failed.ensures ∙ c.if-failed.false in
    record {
      count = IfOk-from_err r _ is_err_now;
      bytes = λ h names. IfOk-from_err r _ is_err_now;
      beginning = λ h names. let b = e.beginning h names in on_err r (b.0, omega (arith, b.1, c.readable-count.ensures), b.2);
      reads = e.reads;
      failed = e.failed ∙ sym is_err_now;
      idle = λ failed. absurd (true≢false (sym failed ∙ working));
    }

pub returns : goal.returns
returns g c =
    let e = c.in_ok-read_some.ensures in
    let working : has_failed c.args.log.now ≡ false = sym c.failed.ensures ∙ c.if-failed.false in
    record {
      count = c.readable-count.ensures;
      bytes = e.bytes;
      beginning = λ h names. tt;
      reads = e.reads;
      failed = e.failed;
      idle = λ failed. absurd (true≢false (sym failed ∙ working));
    }
