use Rattle.std.proofs.Common.{◌≡◌, ◌≢◌, ◌<◌, ◌≤◌, ◌+◌, ◌*◌, ◌∙◌, ℕ, slice_index, sym, ap, subst, arith}
use Rattle.std.proofs.lemmas.Result.{IfOk-from_err}
use Rattle.std.proofs.lemmas.Grind.{common_steps}
use Rattle.vol_sector.specs.Disk.{Image}
use Rattle.vol_log.specs.Log.{view}
use Rattle.vol_alloc.specs.Alloc.{end_of, taken_of}
use Rattle.vol_body.specs.Body.{number_in, block_bytes}
use Rattle.vol_log.proofs.Readings.{reads_then}
use Rattle.vol_body.specs.internal.Truncated.{Frees, IsFreedWithDouble, IsFreedWithDoubles}
use Rattle.vol_body.proofs.Freed.{frees_next_double}
use Rattle.vol_body.proofs.freeing.free_double_indirect_blocks.Goals as goal

pub loop-m-preserved : goal.loop-m-preserved
loop-m-preserved g c =
    let so_far = c.loop-m.invariant in
    let m = c.loop-m.m in
    let numbers = slice_index c.args.double_indirect_blocks.now in
    let a = taken_of c.args.sectors.now in
    let b = taken_of c.loop-m.sectors in
    let d = taken_of c.free_double_indirect_block.new.sectors in
    let content = view c.args.log.now in
    record {
      working = c.in_ok-free_double_indirect_block.ensures.failed;
      reads = reads_then c.args.log.now c.loop-m.log c.free_double_indirect_block.new.log so_far.working so_far.reads c.in_ok-free_double_indirect_block.ensures.reads;
      range = (c.in_ok-free_double_indirect_block.ensures.range.0 ∙ so_far.range.0, c.in_ok-free_double_indirect_block.ensures.range.1 ∙ so_far.range.1);
      frees = λ h top above names.
          let same = so_far.reads.view h in
          frees_next_double a b d content numbers c.args.count m (so_far.frees h top above names)
          (subst (λ (x : Image). Frees b d (IsFreedWithDouble x (numbers m) (16570 + 16384 * m) c.args.count)) same
          (c.in_ok-free_double_indirect_block.ensures.frees (so_far.reads.honest.0 h)
          (top ∙ sym (ap (λ (x : Image). block_bytes x c.args.held.now.top.number) same)) (above ∙ sym (ap (λ (x : Image). block_bytes x c.args.held.now.above.number) same))
          (subst (λ (x : Image). (i : ℕ) → i < 128 → number_in x (numbers m) i ≢ 0 → number_in x (numbers m) i < end_of c.loop-m.sectors) (sym same)
          (subst (λ (x : ℕ). (i : ℕ) → i < 128 → number_in content (numbers m) i ≢ 0 → number_in content (numbers m) i < x) (sym so_far.range.1) (λ i lt some. names m i c.loop-m-test.true lt some)))));
    }

pub free_double_indirect_block-requires : goal.free_double_indirect_block-requires
free_double_indirect_block-requires g c =
    let so_far = c.loop-m.invariant in
    record {
      range = omega (arith, c.requires.range, so_far.range.1, so_far.reads.sectors);
      there = λ some. subst (λ (n : ℕ). slice_index c.args.double_indirect_blocks.now c.loop-m.m < n) (sym so_far.reads.sectors) (c.requires.there c.loop-m.m c.loop-m-test.true some);
      working = so_far.working;
      «data» = subst (λ (n : ℕ). 0 < n) (sym so_far.range.0) c.requires.data;
      place = omega (arith, c.loop-m-test.true);
    }

pub returns-in_err-free_double_indirect_block : goal.returns-in_err-free_double_indirect_block
returns-in_err-free_double_indirect_block g c =
    let r = c.from_residual.result in
    let is_err_now = c.from_residual.ensures.0 in
    let so_far = c.loop-m.invariant in
    let e = c.in_err-free_double_indirect_block.ensures in
    record {
      frees = λ h top above names. IfOk-from_err r _ is_err_now;
      range = (e.range.0 ∙ so_far.range.0, e.range.1 ∙ so_far.range.1);
      reads = reads_then c.args.log.now c.loop-m.log c.free_double_indirect_block.new.log so_far.working so_far.reads e.reads;
      failed = e.failed ∙ sym is_err_now;
    }

pub returns : goal.returns
returns g c =
    let so_far = c.loop-m.invariant in
    let all : c.loop-m.m ≡ 128 = omega (arith, c.loop-m-test.false, c.loop-m.auto.m-end) in
    record {
      frees = λ h top above names. subst (λ (n : ℕ). Frees (taken_of c.args.sectors.now) (taken_of c.loop-m.sectors) (IsFreedWithDoubles (view c.args.log.now) (slice_index c.args.double_indirect_blocks.now) c.args.count n)) all (so_far.frees h top above names);
      range = so_far.range;
      reads = so_far.reads;
      failed = so_far.working;
    }

pub loop-m-init : goal.loop-m-init
loop-m-init c = grind (arith, common_steps)
