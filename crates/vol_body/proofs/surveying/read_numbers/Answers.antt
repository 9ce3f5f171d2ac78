use Rattle.std.proofs.Common.{◌≡◌, ◌∙◌, ℕ, List, get_or, true, true≢false, inl, inr, is_err, refl, sym, ap, arith}
use Rattle.std.proofs.lemmas.Result.{IfOk-from_err}
use Rattle.vol_sector.specs.declared.fault.VolumeFault.TheVariants as faults
use Rattle.vol_log.specs.Log.{view, device_of}
use Rattle.vol_log.proofs.Readings.{reads_same, reads_of}
use Rattle.vol_body.proofs.SurveyExits.{listed_none, listed_read, lists_none, number_listed, handed_on, failed_on, device_not_damaged}
use Rattle.vol_body.proofs.surveying.read_numbers.Goals as goal

pub returns-then-indirect_block-eq0-clause-numbers : goal.returns-then-indirect_block-eq0-clause-numbers
returns-then-indirect_block-eq0-clause-numbers g c h = listed_none (view c.args.log.now) c.args.indirect_block c.if-indirect_block-eq0.true

pub returns-then-indirect_block-eq0-clause-past : goal.returns-then-indirect_block-eq0-clause-past
returns-then-indirect_block-eq0-clause-past g c h = lists_none (view c.args.log.now) c.args.indirect_block c.args.from c.if-indirect_block-eq0.true

pub returns-then-indirect_block-eq0-clause-reads : goal.returns-then-indirect_block-eq0-clause-reads
returns-then-indirect_block-eq0-clause-reads g c = reads_same c.args.log.now

pub returns-then-indirect_block-eq0-clause-failed : goal.returns-then-indirect_block-eq0-clause-failed
returns-then-indirect_block-eq0-clause-failed g c = c.requires.working

pub returns-in_err-image : goal.returns-in_err-image
returns-in_err-image g c =
    let r = c.from_residual.result in
    let is_err_now = c.from_residual.ensures.0 in
    let is = c.from_residual.ensures.1 in
    let e = c.read.ensures in
    record {
      numbers = λ h. IfOk-from_err r _ is_err_now;
      past = λ h. IfOk-from_err r _ is_err_now;
      damaged = λ h. handed_on r _ faults.Device is (λ damaged. device_not_damaged damaged);
      refused = handed_on r _ faults.Device is (inr refl);
      reads = reads_of c.args.log.now c.read.new.self (is_err c.read.result) e.view e.staged e.seen e.crash e.sectors e.honest e.size e.goes_on e.failures e.failed;
      failed = failed_on r faults.Device _ is c.in_err-image.ensures.failed;
    }

pub returns-then-not-none_from : goal.returns-then-not-none_from
returns-then-not-none_from g c =
    let content = view c.args.log.now in
    let e = c.read.ensures in
    record {
      numbers = λ h. tt;
      past = λ h. tt;
      damaged = λ h is none.
          let all = listed_read content c.args.indirect_block c.in_ok-image.image c.numbers_in-numbers.result c.if-indirect_block-eq0.false (c.in_ok-image.ensures.value h) (omega arith) c.numbers_in-numbers.ensures in
          let yes : c.none_from.result ≡ true = c.none_from.ensures.no (λ i le lt. ap (λ (l : List ℕ). get_or l i 0) all ∙ number_listed content c.args.indirect_block i lt ∙ none i le lt) in
          true≢false (sym yes ∙ c.if-not-none_from.true);
      refused = inl tt;
      reads = reads_of c.args.log.now c.read.new.self (is_err c.read.result) e.view e.staged e.seen e.crash e.sectors e.honest e.size e.goes_on e.failures e.failed;
      failed = c.in_ok-image.ensures.failed;
    }

pub returns : goal.returns
returns g c =
    let content = view c.args.log.now in
    let e = c.read.ensures in
    let numbers = λ (h : g.D.Device.honest (device_of c.args.log.now)). listed_read content c.args.indirect_block c.in_ok-image.image c.numbers_in-numbers.result c.if-indirect_block-eq0.false (c.in_ok-image.ensures.value h) (omega arith) c.numbers_in-numbers.ensures in
    record {
      numbers = numbers;
      past = λ h i le lt. sym (number_listed content c.args.indirect_block i lt) ∙ sym (ap (λ (l : List ℕ). get_or l i 0) (numbers h)) ∙ c.none_from.ensures.yes c.if-not-none_from.false i le lt;
      damaged = λ h. tt;
      refused = tt;
      reads = reads_of c.args.log.now c.read.new.self (is_err c.read.result) e.view e.staged e.seen e.crash e.sectors e.honest e.size e.goes_on e.failures e.failed;
      failed = c.in_ok-image.ensures.failed;
    }
