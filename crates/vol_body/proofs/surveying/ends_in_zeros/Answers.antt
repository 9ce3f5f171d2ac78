use Rattle.std.proofs.Common.{◌≡◌, ◌≢◌, ◌∙◌, ◌/◌, ◌<◌, ℕ, List, get_or, is_err, refl, sym, ap, subst, arith}
use Rattle.std.proofs.lemmas.List.{get_or-replicate}
use Rattle.vol_sector.specs.Disk.{Image}
use Rattle.vol_log.specs.Log.{view, device_of}
use Rattle.vol_log.proofs.Readings.{reads_then, reads_same, reads_of}
use Rattle.vol_body.specs.Body.{data_block, named, block_bytes}
use Rattle.vol_body.proofs.Places.{bytes_there}
use Rattle.std.proofs.lemmas.Result.{IfOk-from_err}
use Rattle.vol_body.specs.internal.Surveying.{NamesBelow}
use Rattle.vol_body.proofs.surveying.ends_in_zeros.Goals as goal

pub returns-then-n-eq0-clause-yes : goal.returns-then-n-eq0-clause-yes
returns-then-n-eq0-clause-yes g c h below holds k some le lt =
    let content = view c.args.log.now in
    ap (λ (n : ℕ). get_or (block_bytes content n) k 0) (sym (c.in_ok-n.ensures.sector h below) ∙ c.if-n-eq0.true) ∙ get_or-replicate 512 k 0 0 lt

pub returns-then-n-eq0-clause-no : goal.returns-then-n-eq0-clause-no
returns-then-n-eq0-clause-no g c h below zeros = refl

pub returns-then-n-eq0-clause-reads : goal.returns-then-n-eq0-clause-reads
returns-then-n-eq0-clause-reads g c = c.in_ok-n.ensures.reads

pub returns-then-n-eq0-clause-failed : goal.returns-then-n-eq0-clause-failed
returns-then-n-eq0-clause-failed g c = c.in_ok-n.ensures.failed

pub returns-then-from-eq0 : goal.returns-then-from-eq0
returns-then-from-eq0 g c = record {
  yes = λ h below yes k some. absurd (some c.if-from-eq0.true);
  no = λ h below zeros. refl;
  reads = reads_same c.args.log.now;
  failed = c.requires.working;
}

pub returns-in_err-n : goal.returns-in_err-n
returns-in_err-n g c =
    let r = c.from_residual.result in
    let is_err_now = c.from_residual.ensures.0 in
    record {
      yes = λ h below. IfOk-from_err r _ is_err_now;
      no = λ h below. IfOk-from_err r _ is_err_now;
      reads = c.block_sector.ensures.reads;
      failed = c.in_err-n.ensures.failed ∙ sym is_err_now;
    }

pub returns-then-end-n : goal.returns-then-end-n
returns-then-end-n g c =
    let size = c.args.entry.now.size in
    let n = c.in_ok-n.n in
    let place : size / 512 < 2113722 = omega (arith, c.requires.small, c.if-from-eq0.false) in
    record {
      yes = λ h below.
          let is : n ≡ named (view c.args.log.now) c.args.entry.now (data_block (size / 512)) = c.in_ok-n.ensures.sector h below in
          let lt : n < c.args.end = subst (λ (x : ℕ). x < c.args.end) (sym is) (below (data_block (size / 512)) place (λ none. c.if-n-eq0.false (is ∙ none))) in
          absurd (omega (arith, lt, c.if-end-n.true));
      no = λ h below zeros. refl;
      reads = c.in_ok-n.ensures.reads;
      failed = c.in_ok-n.ensures.failed;
    }

pub returns-in_err-image : goal.returns-in_err-image
returns-in_err-image g c =
    let r = c.from_residual-in_err-image.result in
    let is_err_now = c.from_residual-in_err-image.ensures.0 in
    let e = c.read.ensures in
    record {
      yes = λ h below. IfOk-from_err r _ is_err_now;
      no = λ h below. IfOk-from_err r _ is_err_now;
      reads = reads_then c.args.log.now c.block_sector.new.log c.read.new.self c.in_ok-n.ensures.failed c.in_ok-n.ensures.reads (reads_of c.block_sector.new.log c.read.new.self (is_err c.read.result) e.view e.staged e.seen e.crash e.sectors e.honest e.size e.goes_on e.failures e.failed);
      failed = c.in_err-image.ensures.failed ∙ sym is_err_now;
    }

pub returns : goal.returns
returns g c =
    let content = view c.args.log.now in
    let n = c.in_ok-n.n in
    let e = c.read.ensures in
    let first = c.in_ok-n.ensures in
    let there : n ≢ 0 = c.if-n-eq0.false in
    let bytes = λ (h : g.D.Device.honest (device_of c.args.log.now)) (below : NamesBelow content c.args.entry.now c.args.end).
    c.in_ok-image.ensures.value (first.reads.honest.0 h) ∙ ap (λ (m : Image). m n) (first.reads.view h) ∙ sym (bytes_there content n there) ∙ ap (block_bytes content) (first.sector h below) in
    record {
      yes = λ h below yes k some le lt. ap (λ (l : List ℕ). get_or l k 0) (sym (bytes h below)) ∙ c.zeros_from.ensures.yes yes k le lt;
      no = λ h below zeros. c.zeros_from.ensures.no (λ k le lt. ap (λ (l : List ℕ). get_or l k 0) (bytes h below) ∙ zeros k c.if-from-eq0.false le lt);
      reads = reads_then c.args.log.now c.block_sector.new.log c.read.new.self first.failed first.reads (reads_of c.block_sector.new.log c.read.new.self (is_err c.read.result) e.view e.staged e.seen e.crash e.sectors e.honest e.size e.goes_on e.failures e.failed);
      failed = c.in_ok-image.ensures.failed;
    }
