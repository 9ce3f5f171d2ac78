use Rattle.std.proofs.Common.{◌≡◌, ◌≢◌, ◌∙◌, ◌-◌, ◌/◌, ◌%◌, ◌<◌, ℕ, sym, ap, subst, arith}
use Rattle.std.proofs.lemmas.Result.{IfOk-weaker, IfOk-from_err}
use Rattle.vol_sector.specs.Disk.{Image}
use Rattle.vol_log.specs.Log.{view}
use Rattle.vol_body.specs.Body.{data_block, indirect_block, inner_block, named, number_in}
use Rattle.vol_body.proofs.Places.{part_listed, part_later, part_direct}
use Rattle.vol_log.proofs.Readings.{reads_same, reads_then}
use Rattle.vol_body.proofs.surveying.block_sector.Goals as goal

pub returns-then-j-lt-LISTED-clause-sector : goal.returns-then-j-lt-LISTED-clause-sector
returns-then-j-lt-LISTED-clause-sector g c h below =
    let content = view c.args.log.now in
    let e = c.args.entry.now in
    let j = c.args.j in
    IfOk-weaker c.number_of.result (λ n. n ≡ number_in content (named content e indirect_block) (j - 58)) (λ n. n ≡ named content e (data_block j)) (λ n is. is ∙ sym (part_listed content e j c.if-j-lt-DIRECT.false c.if-j-lt-LISTED.true)) (c.number_of.ensures.number h (below indirect_block tt))

pub returns-clause-sector : goal.returns-clause-sector
returns-clause-sector g c h below =
    let content = view c.args.log.now in
    let e = c.args.entry.now in
    let j = c.args.j in
    let q = (j - 186) / 128 in
    let few : q < 16512 = omega (arith, c.requires.place) in
    let same : view c.inner_block_sector.new.log ≡ content = c.inner_block_sector.ensures.reads.view h in
    let second : c.in_ok-inner_block.inner_block ≡ named content e (inner_block q) = c.in_ok-inner_block.ensures.sector h below in
    let there : c.in_ok-inner_block.inner_block ≢ 0 → c.in_ok-inner_block.inner_block < c.args.end = subst (λ (n : ℕ). n ≢ 0 → n < c.args.end) (sym second) (below (inner_block q) few) in
    let third : number_in (view c.inner_block_sector.new.log) c.in_ok-inner_block.inner_block ((j - 186) % 128) ≡ named content e (data_block j) =
    ap (λ (m : Image). number_in m c.in_ok-inner_block.inner_block ((j - 186) % 128)) same ∙ ap (λ (n : ℕ). number_in content n ((j - 186) % 128)) second ∙ sym (part_later content e j c.if-j-lt-LISTED.false) in
    IfOk-weaker c.number_of-2.result (λ n. n ≡ number_in (view c.inner_block_sector.new.log) c.in_ok-inner_block.inner_block ((j - 186) % 128)) (λ n. n ≡ named content e (data_block j)) (λ n is. is ∙ third) (c.number_of-2.ensures.number (c.inner_block_sector.ensures.reads.honest.0 h) there)

pub returns-then-j-lt-DIRECT : goal.returns-then-j-lt-DIRECT
returns-then-j-lt-DIRECT g c = record {
  sector = λ h below. sym (part_direct (view c.args.log.now) c.args.entry.now c.args.j c.if-j-lt-DIRECT.true);
  reads = reads_same c.args.log.now;
  failed = c.requires.working;
}

pub returns-then-j-lt-LISTED-clause-reads : goal.returns-then-j-lt-LISTED-clause-reads
returns-then-j-lt-LISTED-clause-reads g c = c.number_of.ensures.reads

pub returns-then-j-lt-LISTED-clause-failed : goal.returns-then-j-lt-LISTED-clause-failed
returns-then-j-lt-LISTED-clause-failed g c = c.number_of.ensures.failed

pub returns-in_err-inner_block : goal.returns-in_err-inner_block
returns-in_err-inner_block g c =
    let r = c.from_residual.result in
    let is_err_now = c.from_residual.ensures.0 in
    record {
      sector = λ h names. IfOk-from_err r _ is_err_now;
      reads = c.inner_block_sector.ensures.reads;
      failed = c.in_err-inner_block.ensures.failed ∙ sym is_err_now;
    }

pub returns-clause-reads : goal.returns-clause-reads
returns-clause-reads g c = reads_then c.args.log.now c.inner_block_sector.new.log c.number_of-2.new.log c.in_ok-inner_block.ensures.failed c.inner_block_sector.ensures.reads c.number_of-2.ensures.reads

pub returns-clause-failed : goal.returns-clause-failed
returns-clause-failed g c = c.number_of-2.ensures.failed
