use Rattle.std.proofs.Common.{◌≡◌, ◌≤◌, ◌+◌, ◌*◌, ◌∙◌, ◌-◌, ◌/◌, ℕ, ap, subst, sym, arith}
use Rattle.vol_sector.specs.Disk.{Image}
use Rattle.vol_log.specs.Log.{view}
use Rattle.vol_alloc.specs.Alloc.{taken_of}
use Rattle.vol_body.specs.Body.{data_block, named, block_bytes, NamesTaken}
use Rattle.vol_body.specs.internal.Writing.{MirrorsAll}
use Rattle.vol_log.proofs.Readings.{reads_then}
use Rattle.std.proofs.lemmas.Result.{IfOk-from_err}
use Rattle.vol_body.proofs.writing.read_edges.Goals as goal

pub read_edge-requires : goal.read_edge-requires
read_edge-requires g c = record {
  place = omega (arith, c.requires.some, c.requires.small);
  from = omega arith;
  near = omega arith;
  there = c.requires.there;
  working = c.requires.working;
}

pub returns-in_err-first_image : goal.returns-in_err-first_image
returns-in_err-first_image g c =
    let r = c.from_residual.result in
    let is_err_now = c.from_residual.ensures.0 in
    let e = c.in_err-first_image.ensures in
    record {
      first = λ h names mirrors partly. IfOk-from_err r _ is_err_now;
      last = λ h names mirrors partly. IfOk-from_err r _ is_err_now;
      reads = e.reads;
      failed = e.failed ∙ sym is_err_now;
    }

pub returns-then-first-last-clause-first : goal.returns-then-first-last-clause-first
returns-then-first-last-clause-first g c h names mirrors partly = c.in_ok-first_image.ensures.bytes ((c.args.end - 1) / 512) (omega (arith, c.requires.some)) h names mirrors partly

pub returns-then-first-last-clause-reads : goal.returns-then-first-last-clause-reads
returns-then-first-last-clause-reads g c = c.in_ok-first_image.ensures.reads

pub returns-then-first-last-clause-failed : goal.returns-then-first-last-clause-failed
returns-then-first-last-clause-failed g c = c.in_ok-first_image.ensures.failed

pub read_edge-requires-2 : goal.read_edge-requires-2
read_edge-requires-2 g c =
    let e = c.in_ok-first_image.ensures in
    record {
      place = omega (arith, c.requires.some, c.requires.small);
      from = omega (arith, c.requires.some);
      near = omega (arith, c.requires.some, c.requires.few);
      there = omega (arith, c.requires.there, e.reads.sectors);
      working = e.failed;
    }

pub returns-in_err-last_image : goal.returns-in_err-last_image
returns-in_err-last_image g c =
    let r = c.from_residual-in_err-last_image.result in
    let is_err_now = c.from_residual-in_err-last_image.ensures.0 in
    let e = c.in_err-last_image.ensures in
    record {
      first = λ h names mirrors partly. IfOk-from_err r _ is_err_now;
      last = λ h names mirrors partly. IfOk-from_err r _ is_err_now;
      reads = reads_then c.args.log.now c.read_edge.new.log c.read_edge-2.new.log c.in_ok-first_image.ensures.failed c.in_ok-first_image.ensures.reads e.reads;
      failed = e.failed ∙ sym is_err_now;
    }

pub returns-clause-first : goal.returns-clause-first
returns-clause-first g c h names mirrors partly = c.in_ok-first_image.ensures.bytes ((c.args.end - 1) / 512) (omega (arith, c.requires.some)) h names mirrors partly

pub returns-clause-reads : goal.returns-clause-reads
returns-clause-reads g c = reads_then c.args.log.now c.read_edge.new.log c.read_edge-2.new.log c.in_ok-first_image.ensures.failed c.in_ok-first_image.ensures.reads c.in_ok-last_image.ensures.reads

pub returns-clause-failed : goal.returns-clause-failed
returns-clause-failed g c = c.in_ok-last_image.ensures.failed

-- the first data block is the last
pub returns-then-first-last-clause-last : goal.returns-then-first-last-clause-last
returns-then-first-last-clause-last g c h names mirrors partly =
    let offset = c.args.offset in
    let end = c.args.end in
    let content = view c.args.log.now in
    subst (λ (j : ℕ). (offset ≤ 512 * j → 512 * j + 512 ≤ end → ⊥) → c.in_ok-first_image.first_image ≡ block_bytes content (named content c.args.entry.now (data_block j))) c.if-first-last.true
    (c.in_ok-first_image.ensures.bytes ((end - 1) / 512) (omega (arith, c.requires.some)) h names mirrors) partly

pub returns-clause-last : goal.returns-clause-last
returns-clause-last g c h names mirrors partly =
    let last = (c.args.end - 1) / 512 in
    let e = c.args.entry.now in
    let first = c.in_ok-first_image.ensures.reads in
    let same : view c.read_edge.new.log ≡ view c.args.log.now = first.view h in
    c.in_ok-last_image.ensures.bytes last (omega arith) (first.honest.0 h) (subst (λ (m : Image). NamesTaken (taken_of c.args.sectors.now) m e) (sym same) names)
    (subst (λ (m : Image). MirrorsAll m e c.args.all.now (c.args.offset / 512) last) (sym same) mirrors) partly ∙ ap (λ (m : Image). block_bytes m (named m e (data_block last))) same
