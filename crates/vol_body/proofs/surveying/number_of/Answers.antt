use Rattle.std.proofs.Common.{◌∙◌, ◌*◌, ℕ, List, drop, is_err, sym, ap}
use Rattle.byteorder.specs.Endian.{little_number}
use Rattle.vol_log.specs.Log.{view}
use Rattle.vol_body.proofs.Places.{number_there}
use Rattle.std.proofs.lemmas.Result.{IfOk-from_err}
use Rattle.vol_log.proofs.Readings.{reads_same, reads_of}
use Rattle.vol_body.proofs.surveying.number_of.Goals as goal

pub returns-then-indirect_block-eq0-clause-reads : goal.returns-then-indirect_block-eq0-clause-reads
returns-then-indirect_block-eq0-clause-reads g c = reads_same c.args.log.now

pub returns-then-indirect_block-eq0-clause-failed : goal.returns-then-indirect_block-eq0-clause-failed
returns-then-indirect_block-eq0-clause-failed g c = c.requires.working

pub returns-then-end-indirect_block-clause-reads : goal.returns-then-end-indirect_block-clause-reads
returns-then-end-indirect_block-clause-reads g c = reads_same c.args.log.now

pub returns-then-end-indirect_block-clause-failed : goal.returns-then-end-indirect_block-clause-failed
returns-then-end-indirect_block-clause-failed g c = c.requires.working

pub returns-in_err-image : goal.returns-in_err-image
returns-in_err-image g c =
    let r = c.from_residual.result in
    let is_err_now = c.from_residual.ensures.0 in
    let e = c.read.ensures in
    record {
      number = λ h there. IfOk-from_err r _ is_err_now;
      reads = reads_of c.args.log.now c.read.new.self (is_err c.read.result) e.view e.staged e.seen e.crash e.sectors e.honest e.size e.goes_on e.failures e.failed;
      failed = c.in_err-image.ensures.failed ∙ sym is_err_now;
    }

pub returns : goal.returns
returns g c =
    let e = c.read.ensures in
    record {
      number = λ h there. c.number_at.ensures ∙ ap (λ (l : List ℕ). little_number 4 (drop (4 * c.args.i) l)) (c.in_ok-image.ensures.value h) ∙ sym (number_there (view c.args.log.now) c.args.indirect_block c.args.i c.if-indirect_block-eq0.false);
      reads = reads_of c.args.log.now c.read.new.self (is_err c.read.result) e.view e.staged e.seen e.crash e.sectors e.honest e.size e.goes_on e.failures e.failed;
      failed = c.in_ok-image.ensures.failed;
    }
