use Rattle.std.proofs.Common.{◌≡◌, ◌∙◌, ◌⊎◌, ◌≤◌, ◌<◌, inl, inr, ⊎_elim, ℕ, slice_index, refl, sym, ap, subst, arith}
use Rattle.std.proofs.lemmas.Result.{IfOk-from_err}
use Rattle.vol_sector.specs.Disk.{Image}
use Rattle.vol_log.specs.Log.{view}
use Rattle.vol_log.proofs.Readings.{reads_same, reads_then}
use Rattle.vol_alloc.specs.Alloc.{first_of, end_of, taken_of}
use Rattle.vol_body.specs.Body.{number_in, block_bytes}
use Rattle.vol_body.specs.internal.Truncated.{Frees, IsFreedWithLater, IsFreedWithDouble}
use Rattle.vol_body.proofs.Freed.{frees_none, frees_then, frees_these, frees_inner, before_end, no_double, kept_double, none_taken}
use Rattle.vol_body.proofs.freeing.free_double_indirect_block.Goals as goal

pub returns-then-double_indirect_block-eq0 : goal.returns-then-double_indirect_block-eq0
returns-then-double_indirect_block-eq0 g c = record {
  frees = λ h top above names. frees_none (taken_of c.args.sectors.now) (IsFreedWithDouble (view c.args.log.now) c.args.double_indirect_block c.args.start c.args.count)
      (λ n goes taken. none_taken c.args.sectors.now.first c.args.sectors.now.taken.items n c.requires.data
      (no_double (view c.args.log.now) c.args.start c.args.count n (subst (λ (k : ℕ). IsFreedWithDouble (view c.args.log.now) k c.args.start c.args.count n) c.if-double_indirect_block-eq0.true goes)) taken);
  range = (refl, refl);
  reads = reads_same c.args.log.now;
  failed = c.requires.working;
}

pub returns-then-start-count : goal.returns-then-start-count
returns-then-start-count g c = record {
  frees = λ h top above names. frees_none (taken_of c.args.sectors.now) (IsFreedWithDouble (view c.args.log.now) c.args.double_indirect_block c.args.start c.args.count)
      (λ n goes taken. kept_double (view c.args.log.now) c.args.double_indirect_block c.args.start c.args.count n (omega (arith, c.if-start-count.true)) goes);
  range = (refl, refl);
  reads = reads_same c.args.log.now;
  failed = c.requires.working;
}

pub read_unless_held-requires : goal.read_unless_held-requires
read_unless_held-requires g c = record { some = c.if-double_indirect_block-eq0.false; there = c.requires.there c.if-double_indirect_block-eq0.false; working = c.requires.working }

pub returns-in_err-image : goal.returns-in_err-image
returns-in_err-image g c =
    let r = c.from_residual.result in
    let is_err_now = c.from_residual.ensures.0 in
    let e = c.in_err-image.ensures in
    record {
      frees = λ h top above names. IfOk-from_err r _ is_err_now;
      range = (refl, refl);
      reads = e.reads;
      failed = e.failed ∙ sym is_err_now;
    }

pub free_inner_blocks-requires : goal.free_inner_blocks-requires
free_inner_blocks-requires g c = record {
  there = λ i lt some. subst (λ (n : ℕ). slice_index c.numbers_before-numbers.result i < n) (sym c.in_ok-image.ensures.reads.sectors)
      (omega (arith, before_end _ c.end.result _ (c.numbers_before-numbers.ensures i lt) some, c.end.ensures, c.requires.range));
  working = c.in_ok-image.ensures.failed;
  «data» = c.requires.data;
  place = c.requires.place;
}

pub returns-in_err-free_inner_blocks : goal.returns-in_err-free_inner_blocks
returns-in_err-free_inner_blocks g c =
    let r = c.from_residual-in_err-free_inner_blocks.result in
    let is_err_now = c.from_residual-in_err-free_inner_blocks.ensures.0 in
    let e = c.in_err-free_inner_blocks.ensures in
    record {
      frees = λ h top above names. IfOk-from_err r _ is_err_now;
      range = e.range;
      reads = reads_then c.args.log.now c.read_unless_held.new.log c.free_inner_blocks.new.log c.in_ok-image.ensures.failed c.in_ok-image.ensures.reads e.reads;
      failed = e.failed ∙ sym is_err_now;
    }

pub returns-then-count-start : goal.returns-then-count-start
returns-then-count-start g c = record {
  frees = λ h top above names.
      let a = taken_of c.args.sectors.now in
      let b = taken_of c.free_inner_blocks.new.sectors in
      let d = taken_of c.free_taken.new.sectors in
      let content = view c.args.log.now in
      let first = c.in_ok-image.ensures in
      let n = c.args.double_indirect_block in
      let P = IsFreedWithLater (view c.args.log.now) (number_in (view c.args.log.now) n) c.args.start c.args.count 128 in
      frees_these a d (λ k. P k ⊎ (k ≡ n)) (IsFreedWithDouble (view c.args.log.now) n c.args.start c.args.count)
      (frees_then a b d P (λ k. k ≡ n) (frees_inner a b content (view c.read_unless_held.new.log) n c.args.start c.args.count c.end.result (end_of c.args.sectors.now) c.in_ok-image.image (slice_index c.numbers_before-numbers.result) c.if-double_indirect_block-eq0.false
      (first.bytes h top) c.end.ensures names c.numbers_before-numbers.ensures (first.reads.view h)
      (c.in_ok-free_inner_blocks.ensures.frees (first.reads.honest.0 h) (above ∙ sym (ap (λ (m : Image). block_bytes m c.args.held.now.above.number) (first.reads.view h))))) c.free_taken.ensures.frees)
      (λ k either. ⊎_elim (λ s. inl s) (λ is. inr (c.if-count-start.true, sym is)) either)
      (λ k either. ⊎_elim (λ s. inl s) (λ s. inr (sym s.1)) either);
  range = (c.free_taken.ensures.range.0 ∙ c.in_ok-free_inner_blocks.ensures.range.0, c.free_taken.ensures.range.1 ∙ c.in_ok-free_inner_blocks.ensures.range.1);
  reads = reads_then c.args.log.now c.read_unless_held.new.log c.free_inner_blocks.new.log c.in_ok-image.ensures.failed c.in_ok-image.ensures.reads c.in_ok-free_inner_blocks.ensures.reads;
  failed = c.in_ok-free_inner_blocks.ensures.failed;
}

pub returns-else-count-start : goal.returns-else-count-start
returns-else-count-start g c = record {
  frees = λ h top above names.
      let a = taken_of c.args.sectors.now in
      let b = taken_of c.free_inner_blocks.new.sectors in
      let content = view c.args.log.now in
      let first = c.in_ok-image.ensures in
      let n = c.args.double_indirect_block in
      let P = IsFreedWithLater (view c.args.log.now) (number_in (view c.args.log.now) n) c.args.start c.args.count 128 in
      frees_these a b P (IsFreedWithDouble (view c.args.log.now) n c.args.start c.args.count) (frees_inner a b content (view c.read_unless_held.new.log) n c.args.start c.args.count c.end.result (end_of c.args.sectors.now) c.in_ok-image.image (slice_index c.numbers_before-numbers.result) c.if-double_indirect_block-eq0.false
      (first.bytes h top) c.end.ensures names c.numbers_before-numbers.ensures (first.reads.view h)
      (c.in_ok-free_inner_blocks.ensures.frees (first.reads.honest.0 h) (above ∙ sym (ap (λ (m : Image). block_bytes m c.args.held.now.above.number) (first.reads.view h)))))
      (λ k s. inl s)
      (λ k either. ⊎_elim (λ s. s) (λ s. absurd (omega (arith, s.0, c.if-count-start.false))) either);
  range = c.in_ok-free_inner_blocks.ensures.range;
  reads = reads_then c.args.log.now c.read_unless_held.new.log c.free_inner_blocks.new.log c.in_ok-image.ensures.failed c.in_ok-image.ensures.reads c.in_ok-free_inner_blocks.ensures.reads;
  failed = c.in_ok-free_inner_blocks.ensures.failed;
}
