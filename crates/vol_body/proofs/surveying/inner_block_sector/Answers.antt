use Rattle.std.proofs.Common.{◌≡◌, ◌≢◌, ◌∙◌, ◌-◌, ◌/◌, ◌%◌, ◌<◌, ℕ, sym, ap, subst, arith}
use Rattle.std.proofs.lemmas.Result.{IfOk-weaker, IfOk-from_err}
use Rattle.vol_sector.specs.Disk.{Image}
use Rattle.vol_log.specs.Log.{view}
use Rattle.vol_body.specs.Body.{inner_block, double_indirect_block, triple_indirect_block, named, number_in}
use Rattle.vol_body.proofs.Places.{inner_of_first, double_later}
use Rattle.vol_log.proofs.Readings.{reads_same, reads_then}
use Rattle.vol_body.proofs.surveying.inner_block_sector.Goals as goal

pub returns-then-i-lt-NUMBERS : goal.returns-then-i-lt-NUMBERS
returns-then-i-lt-NUMBERS g c =
    let content = view c.args.log.now in
    let e = c.args.entry.now in
    let i = c.args.i in
    record {
      sector = λ h below. IfOk-weaker c.number_of.result (λ n. n ≡ number_in content (named content e (double_indirect_block 0)) i) (λ n. n ≡ named content e (inner_block i)) (λ n is. is ∙ sym (inner_of_first content e i c.if-i-lt-NUMBERS.true))
          (c.number_of.ensures.number h (below (double_indirect_block 0) (omega arith)));
      reads = c.number_of.ensures.reads;
      failed = c.number_of.ensures.failed;
    }

pub returns-in_err-double : goal.returns-in_err-double
returns-in_err-double g c =
    let r = c.from_residual.result in
    let is_err_now = c.from_residual.ensures.0 in
    record {
      sector = λ h names. IfOk-from_err r _ is_err_now;
      reads = c.number_of-2.ensures.reads;
      failed = c.in_err-double.ensures.failed ∙ sym is_err_now;
    }

pub returns : goal.returns
returns g c =
    let content = view c.args.log.now in
    let e = c.args.entry.now in
    let i = c.args.i in
    let d = i / 128 in
    let first = c.in_ok-double.ensures in
    record {
      sector = λ h below.
          let same : view c.number_of-2.new.log ≡ content = first.reads.view h in
          let there : d < 129 = omega (arith, c.requires.place) in
          let second : c.in_ok-double.double ≡ named content e (double_indirect_block d) = first.number h (below triple_indirect_block tt) ∙ sym (double_later content e d (omega (arith, c.if-i-lt-NUMBERS.false))) in
          let before : c.in_ok-double.double ≢ 0 → c.in_ok-double.double < c.args.end = subst (λ (n : ℕ). n ≢ 0 → n < c.args.end) (sym second) (below (double_indirect_block d) there) in
          let third : number_in (view c.number_of-2.new.log) c.in_ok-double.double (i % 128) ≡ named content e (inner_block i) =
          ap (λ (m : Image). number_in m c.in_ok-double.double (i % 128)) same ∙ ap (λ (n : ℕ). number_in content n (i % 128)) second in
          IfOk-weaker c.number_of-3.result (λ n. n ≡ number_in (view c.number_of-2.new.log) c.in_ok-double.double (i % 128)) (λ n. n ≡ named content e (inner_block i)) (λ n is. is ∙ third) (c.number_of-3.ensures.number (first.reads.honest.0 h) before);
      reads = reads_then c.args.log.now c.number_of-2.new.log c.number_of-3.new.log first.failed first.reads c.number_of-3.ensures.reads;
      failed = c.number_of-3.ensures.failed;
    }
