use Rattle.std.proofs.Common.{◌≡◌, ◌∙◌, ℕ, replicate, is_err, sym, ap, arith}
use Rattle.std.proofs.lemmas.Result.{IfOk-weaker}
use Rattle.std.proofs.lemmas.Grind.{common_steps}
use Rattle.vol_sector.specs.Disk.{Image}
use Rattle.vol_log.specs.Log.{view}
use Rattle.vol_log.proofs.Readings.{reads_same, reads_of}
use Rattle.vol_body.specs.Body.{block_bytes}
use Rattle.vol_body.proofs.Places.{bytes_there}
use Rattle.vol_body.proofs.locate.read_taken.Goals as goal

bytes_none : (content : Image) (n : ℕ) → n ≡ 0 → replicate 512 0 ≡ block_bytes content n
bytes_none content n none = ap (block_bytes content) (sym none)

pub returns-then-n-eq0-clause-bytes : goal.returns-then-n-eq0-clause-bytes
returns-then-n-eq0-clause-bytes g c h = bytes_none (view c.args.log.now) c.args.n c.if-n-eq0.true

pub returns-then-n-eq0-clause-reads : goal.returns-then-n-eq0-clause-reads
returns-then-n-eq0-clause-reads g c = reads_same c.args.log.now

pub returns-then-n-eq0-clause-failed : goal.returns-then-n-eq0-clause-failed
returns-then-n-eq0-clause-failed g c = c.requires.working

pub returns : goal.returns
returns g c =
    let e = c.read.ensures in
    let content = view c.args.log.now in
    record {
      bytes = λ h. IfOk-weaker c.read.result (λ image. image ≡ content c.args.n) (λ image. image ≡ block_bytes content c.args.n) (λ image is. is ∙ sym (bytes_there content c.args.n c.if-n-eq0.false)) (e.value h);
      reads = reads_of c.args.log.now c.read.new.self (is_err c.read.result) e.view e.staged e.seen e.crash e.sectors e.honest e.size e.goes_on e.failures e.failed;
      failed = e.failed;
    }

pub read-requires : goal.read-requires
read-requires c = grind (arith, common_steps)
