use Rattle.std.proofs.Common.{◌≡◌, ◌<◌, ◌∙◌, ℕ, slice_index, sym, ap, subst, arith}
use Rattle.std.proofs.lemmas.Result.{IfOk-from_err}
use Rattle.std.proofs.lemmas.Grind.{common_steps}
use Rattle.vol_sector.specs.Disk.{Image}
use Rattle.vol_log.specs.Log.{view}
use Rattle.vol_alloc.specs.Alloc.{taken_of}
use Rattle.vol_body.specs.Body.{block_bytes}
use Rattle.vol_log.proofs.Readings.{reads_then}
use Rattle.vol_body.specs.internal.Truncated.{Frees, IsFreedWithLater}
use Rattle.vol_body.proofs.Freed.{frees_at, frees_next_list}
use Rattle.vol_body.proofs.freeing.free_inner_blocks.Goals as goal

pub loop-i-preserved : goal.loop-i-preserved
loop-i-preserved g c =
    let so_far = c.loop-i.invariant in
    let i = c.loop-i.i in
    let numbers = slice_index c.args.inner_blocks.now in
    record {
      working = c.in_ok-free_indirect_block.ensures.failed;
      reads = reads_then c.args.log.now c.loop-i.log c.free_indirect_block.new.log so_far.working so_far.reads c.in_ok-free_indirect_block.ensures.reads;
      range = (c.in_ok-free_indirect_block.ensures.range.0 ∙ so_far.range.0, c.in_ok-free_indirect_block.ensures.range.1 ∙ so_far.range.1);
      frees = λ h is_held. frees_next_list (taken_of c.args.sectors.now) (taken_of c.loop-i.sectors) (taken_of c.free_indirect_block.new.sectors) (view c.args.log.now) numbers c.args.start c.args.count i (so_far.frees h is_held)
          (frees_at (taken_of c.loop-i.sectors) (taken_of c.free_indirect_block.new.sectors) (view c.loop-i.log) (view c.args.log.now) (numbers i) c.saturating_sub-from.result _ (so_far.reads.view h) c.saturating_sub-from.ensures
          (c.in_ok-free_indirect_block.ensures.frees (so_far.reads.honest.0 h) (is_held ∙ sym (ap (λ (m : Image). block_bytes m c.args.held.now.number) (so_far.reads.view h)))));
    }

pub free_indirect_block-requires : goal.free_indirect_block-requires
free_indirect_block-requires g c =
    let so_far = c.loop-i.invariant in
    record {
      there = λ some. subst (λ (n : ℕ). slice_index c.args.inner_blocks.now c.loop-i.i < n) (sym so_far.reads.sectors) (c.requires.there c.loop-i.i c.loop-i-test.true some);
      working = so_far.working;
      «data» = subst (λ (n : ℕ). 0 < n) (sym so_far.range.0) c.requires.data;
    }

pub returns-in_err-free_indirect_block : goal.returns-in_err-free_indirect_block
returns-in_err-free_indirect_block g c =
    let r = c.from_residual.result in
    let is_err_now = c.from_residual.ensures.0 in
    let so_far = c.loop-i.invariant in
    let e = c.in_err-free_indirect_block.ensures in
    record {
      frees = λ h is_held. IfOk-from_err r _ is_err_now;
      range = (e.range.0 ∙ so_far.range.0, e.range.1 ∙ so_far.range.1);
      reads = reads_then c.args.log.now c.loop-i.log c.free_indirect_block.new.log so_far.working so_far.reads e.reads;
      failed = e.failed ∙ sym is_err_now;
    }

pub returns : goal.returns
returns g c =
    let so_far = c.loop-i.invariant in
    let all : c.loop-i.i ≡ 128 = omega (arith, c.loop-i-test.false, c.loop-i.auto.i-end) in
    record {
      frees = λ h is_held. subst (λ (n : ℕ). Frees (taken_of c.args.sectors.now) (taken_of c.loop-i.sectors) (IsFreedWithLater (view c.args.log.now) (slice_index c.args.inner_blocks.now) c.args.start c.args.count n)) all (so_far.frees h is_held);
      range = so_far.range;
      reads = so_far.reads;
      failed = so_far.working;
    }

pub loop-i-init : goal.loop-i-init
loop-i-init c = grind (arith, common_steps)
