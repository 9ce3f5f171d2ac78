use Rattle.std.proofs.Common.{◌≡◌, ◌≢◌, ◌∙◌, ◌⊎◌, ◌≤◌, ◌<◌, inl, inr, ⊎_elim, ℕ, slice_index, refl, sym, ap, subst, arith}
use Rattle.std.proofs.lemmas.Result.{IfOk-from_err}
use Rattle.vol_sector.specs.Disk.{Image}
use Rattle.vol_log.specs.Log.{view}
use Rattle.vol_log.proofs.Readings.{reads_same}
use Rattle.vol_alloc.specs.Alloc.{end_of, taken_of}
use Rattle.vol_body.specs.Body.{number_in, block_bytes}
use Rattle.vol_body.specs.internal.Truncated.{Frees, IsFreedWithDoubles, IsFreedWithTriple}
use Rattle.vol_body.proofs.Places.{bytes_there}
use Rattle.vol_body.proofs.Freed.{frees_none, frees_then, frees_these, frees_doubles, listed_before, before_end, no_triple, none_taken}
use Rattle.vol_body.proofs.freeing.free_triple_indirect_block.Goals as goal

pub returns-then-held-eq0 : goal.returns-then-held-eq0
returns-then-held-eq0 g c = record {
  frees = λ h triple top above doubles inner. frees_none (taken_of c.args.sectors.now) (IsFreedWithTriple (view c.args.log.now) c.args.held.now.triple.number c.args.count)
      (λ n goes taken. none_taken c.args.sectors.now.first c.args.sectors.now.taken.items n c.requires.data
      (no_triple (view c.args.log.now) c.args.count n (subst (λ (k : ℕ). IsFreedWithTriple (view c.args.log.now) k c.args.count n) c.if-held-eq0.true goes)) taken);
  range = (refl, refl);
  reads = reads_same c.args.log.now;
  failed = c.requires.working;
}

pub free_double_indirect_blocks-requires : goal.free_double_indirect_blocks-requires
free_double_indirect_blocks-requires g c = record {
  range = c.requires.range;
  there = λ m lt some. omega (arith, before_end _ c.end.result _ (c.numbers_before-numbers.ensures m lt) some, c.end.ensures, c.requires.range);
  working = c.requires.working;
  «data» = c.requires.data;
}

pub returns-in_err-free_double_indirect_blocks : goal.returns-in_err-free_double_indirect_blocks
returns-in_err-free_double_indirect_blocks g c =
    let r = c.from_residual.result in
    let is_err_now = c.from_residual.ensures.0 in
    let e = c.in_err-free_double_indirect_blocks.ensures in
    record {
      frees = λ h triple top above doubles inner. IfOk-from_err r _ is_err_now;
      range = e.range;
      reads = e.reads;
      failed = e.failed ∙ sym is_err_now;
    }

pub returns-then-count-le-TWICE_LISTED : goal.returns-then-count-le-TWICE_LISTED
returns-then-count-le-TWICE_LISTED g c = record {
  frees = λ h triple top above doubles inner.
      let a = taken_of c.args.sectors.now in
      let b = taken_of c.free_double_indirect_blocks.new.sectors in
      let d = taken_of c.free_taken.new.sectors in
      let n = c.args.held.now.triple.number in
      let content = view c.args.log.now in
      let some = c.if-held-eq0.false in
      let numbers = slice_index c.numbers_before-numbers.result in
      let same = listed_before content n c.end.result c.args.held.now.triple.image some (triple ∙ bytes_there content n some) (λ m lt there. subst (λ (k : ℕ). number_in content n m < k) (sym c.end.ensures) (doubles m lt there)) numbers c.numbers_before-numbers.ensures in
      let later = frees_doubles a b content numbers (number_in content n) c.args.count same
      (c.in_ok-free_double_indirect_blocks.ensures.frees h top above (λ m i lt below. subst (λ (k : ℕ). number_in content k i ≢ 0 → number_in content k i < end_of c.args.sectors.now) (sym (same m lt)) (inner m i lt below))) in
      let P = IsFreedWithDoubles (view c.args.log.now) (number_in (view c.args.log.now) n) c.args.count 128 in
      frees_these a d (λ k. P k ⊎ (k ≡ n)) (IsFreedWithTriple (view c.args.log.now) n c.args.count)
      (frees_then a b d P (λ k. k ≡ n) later c.free_taken.ensures.frees)
      (λ k either. ⊎_elim (λ s. inl s) (λ is. inr (c.if-count-le-TWICE_LISTED.true, sym is)) either)
      (λ k either. ⊎_elim (λ s. inl s) (λ s. inr (sym s.1)) either);
  range = (c.free_taken.ensures.range.0 ∙ c.in_ok-free_double_indirect_blocks.ensures.range.0, c.free_taken.ensures.range.1 ∙ c.in_ok-free_double_indirect_blocks.ensures.range.1);
  reads = c.in_ok-free_double_indirect_blocks.ensures.reads;
  failed = c.in_ok-free_double_indirect_blocks.ensures.failed;
}

pub returns-else-count-le-TWICE_LISTED : goal.returns-else-count-le-TWICE_LISTED
returns-else-count-le-TWICE_LISTED g c = record {
  frees = λ h triple top above doubles inner.
      let a = taken_of c.args.sectors.now in
      let b = taken_of c.free_double_indirect_blocks.new.sectors in
      let n = c.args.held.now.triple.number in
      let content = view c.args.log.now in
      let some = c.if-held-eq0.false in
      let numbers = slice_index c.numbers_before-numbers.result in
      let same = listed_before content n c.end.result c.args.held.now.triple.image some (triple ∙ bytes_there content n some) (λ m lt there. subst (λ (k : ℕ). number_in content n m < k) (sym c.end.ensures) (doubles m lt there)) numbers c.numbers_before-numbers.ensures in
      let later = frees_doubles a b content numbers (number_in content n) c.args.count same
      (c.in_ok-free_double_indirect_blocks.ensures.frees h top above (λ m i lt below. subst (λ (k : ℕ). number_in content k i ≢ 0 → number_in content k i < end_of c.args.sectors.now) (sym (same m lt)) (inner m i lt below))) in
      let P = IsFreedWithDoubles (view c.args.log.now) (number_in (view c.args.log.now) n) c.args.count 128 in
      frees_these a b P (IsFreedWithTriple (view c.args.log.now) n c.args.count) later
      (λ k s. inl s)
      (λ k either. ⊎_elim (λ s. s) (λ s. absurd (omega (arith, s.0, c.if-count-le-TWICE_LISTED.false))) either);
  range = c.in_ok-free_double_indirect_blocks.ensures.range;
  reads = c.in_ok-free_double_indirect_blocks.ensures.reads;
  failed = c.in_ok-free_double_indirect_blocks.ensures.failed;
}
