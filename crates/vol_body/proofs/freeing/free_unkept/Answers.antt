use Rattle.std.proofs.Common.{◌≡◌, ◌≢◌, ◌∙◌, ◌-◌, ◌+◌, ◌*◌, ◌≤◌, ◌<◌, ◌⊎◌, ℕ, suc, true, get_or, slice_index, sym, ap, subst, arith}
use Rattle.std.proofs.lemmas.Result.{IfOk-from_err}
use Rattle.vol_sector.specs.Disk.{Image}
use Rattle.vol_log.specs.Log.{view, log_sectors}
use Rattle.vol_alloc.specs.Alloc.{end_of, taken_of}
use Rattle.vol_alloc.specs.declared.sectors.Alloc.{Alloc}
use Rattle.vol_inode.specs.declared.entry.Entry.{Entry}
use Rattle.vol_body.specs.Body.{BlockPosition, indirect_block, inner_block, double_indirect_block, triple_indirect_block, IsPosition, NamesTaken, named, number_in, block_bytes}
use Rattle.vol_body.specs.internal.Truncated.{Frees, IsAmong, IsFreedWithBlock, IsFreedWithDouble, IsFreedWithTriple}
use Rattle.vol_body.proofs.Places.{known_at, inner_in}
use Rattle.vol_body.proofs.CutSectors.{in_range}
use Rattle.vol_log.proofs.Readings.{reads_then}
use Rattle.vol_body.proofs.Freed.{frees_then, frees_at, frees_all, known_there, IsFreedLater, IsFreedFirst}
use Rattle.vol_body.proofs.freeing.free_unkept.Goals as goal

-- what the file names is before the end of its sectors
below_end : (a : Alloc) (content : Image) (e : Entry) → NamesTaken (taken_of a) content e → (p : BlockPosition) → IsPosition p → named content e p ≢ 0 → named content e p < end_of a
below_end a content e names p there some = (in_range a (named content e p) (names p there some)).1

inner_below : (a : Alloc) (content : Image) (e : Entry) → NamesTaken (taken_of a) content e → (d i : ℕ) → d < 129 → i < 128 → number_in content (named content e (double_indirect_block d)) i ≢ 0 → number_in content (named content e (double_indirect_block d)) i < end_of a
inner_below a content e names d i there lt =
    subst (λ (n : ℕ). n ≢ 0 → n < end_of a) (inner_in content e d i lt) (below_end a content e names (inner_block (128 * d + i)) (omega (arith, there, lt)))

pub free_triple_indirect_block-requires : goal.free_triple_indirect_block-requires
free_triple_indirect_block-requires g c = record { range = c.requires.there; working = c.requires.working; «data» = c.requires.data }

pub returns-in_err-free_triple_indirect_block : goal.returns-in_err-free_triple_indirect_block
returns-in_err-free_triple_indirect_block g c =
    let r = c.from_residual.result in
    let is_err_now = c.from_residual.ensures.0 in
    let e = c.in_err-free_triple_indirect_block.ensures in
    record {
      frees = λ h names is_held. IfOk-from_err r _ is_err_now;
      range = e.range;
      reads = e.reads;
      failed = e.failed ∙ sym is_err_now;
    }

pub free_double_indirect_block-requires : goal.free_double_indirect_block-requires
free_double_indirect_block-requires g c =
    let e = c.in_ok-free_triple_indirect_block.ensures in
    record {
      range = omega (arith, c.requires.there, e.range.1, e.reads.sectors);
      there = λ some. subst (λ (m : ℕ). c.taken_or_zero-double.result < m) (sym e.reads.sectors)
          (known_there c.args.sectors.now (get_or c.args.entry.now.pointers 59 0) c.taken_or_zero-double.result (log_sectors c.args.log.now) c.taken_or_zero-double.ensures c.requires.there some);
      working = e.failed;
      «data» = subst (λ (n : ℕ). 0 < n) (sym e.range.0) c.requires.data;
      place = omega arith;
    }

pub returns-in_err-free_double_indirect_block : goal.returns-in_err-free_double_indirect_block
returns-in_err-free_double_indirect_block g c =
    let r = c.from_residual-in_err-free_double_indirect_block.result in
    let is_err_now = c.from_residual-in_err-free_double_indirect_block.ensures.0 in
    let f = c.in_ok-free_triple_indirect_block.ensures in
    let e = c.in_err-free_double_indirect_block.ensures in
    record {
      frees = λ h names is_held. IfOk-from_err r _ is_err_now;
      range = (e.range.0 ∙ f.range.0, e.range.1 ∙ f.range.1);
      reads = reads_then c.args.log.now c.free_triple_indirect_block.new.log c.free_double_indirect_block.new.log f.failed f.reads e.reads;
      failed = e.failed ∙ sym is_err_now;
    }

pub free_indirect_block-requires : goal.free_indirect_block-requires
free_indirect_block-requires g c =
    let f = c.in_ok-free_triple_indirect_block.ensures in
    let e = c.in_ok-free_double_indirect_block.ensures in
    record {
      there = λ some. subst (λ (m : ℕ). c.taken_or_zero-indirect_block.result < m) (sym (e.reads.sectors ∙ f.reads.sectors))
          (known_there c.args.sectors.now (get_or c.args.entry.now.pointers 58 0) c.taken_or_zero-indirect_block.result (log_sectors c.args.log.now) c.taken_or_zero-indirect_block.ensures c.requires.there some);
      working = e.failed;
      «data» = subst (λ (n : ℕ). 0 < n) (sym (e.range.0 ∙ f.range.0)) c.requires.data;
    }

pub returns-in_err-free_indirect_block : goal.returns-in_err-free_indirect_block
returns-in_err-free_indirect_block g c =
    let r = c.from_residual-in_err-free_indirect_block.result in
    let is_err_now = c.from_residual-in_err-free_indirect_block.ensures.0 in
    let f = c.in_ok-free_triple_indirect_block.ensures in
    let d = c.in_ok-free_double_indirect_block.ensures in
    let e = c.in_err-free_indirect_block.ensures in
    record {
      frees = λ h names is_held. IfOk-from_err r _ is_err_now;
      range = (e.range.0 ∙ d.range.0 ∙ f.range.0, e.range.1 ∙ d.range.1 ∙ f.range.1);
      reads = reads_then c.args.log.now c.free_double_indirect_block.new.log c.free_indirect_block.new.log d.failed
          (reads_then c.args.log.now c.free_triple_indirect_block.new.log c.free_double_indirect_block.new.log f.failed f.reads d.reads) e.reads;
      failed = e.failed ∙ sym is_err_now;
    }

pub returns-clause-range : goal.returns-clause-range
returns-clause-range g c =
    let f = c.in_ok-free_triple_indirect_block.ensures.range in
    let d = c.in_ok-free_double_indirect_block.ensures.range in
    let e = c.in_ok-free_indirect_block.ensures.range in
    let last = c.free_direct.ensures.range in
    (last.0 ∙ e.0 ∙ d.0 ∙ f.0, last.1 ∙ e.1 ∙ d.1 ∙ f.1)

pub returns-clause-reads : goal.returns-clause-reads
returns-clause-reads g c =
    let f = c.in_ok-free_triple_indirect_block.ensures in
    let d = c.in_ok-free_double_indirect_block.ensures in
    reads_then c.args.log.now c.free_double_indirect_block.new.log c.free_indirect_block.new.log d.failed
    (reads_then c.args.log.now c.free_triple_indirect_block.new.log c.free_double_indirect_block.new.log f.failed f.reads d.reads) c.in_ok-free_indirect_block.ensures.reads

pub returns-clause-failed : goal.returns-clause-failed
returns-clause-failed g c = c.in_ok-free_indirect_block.ensures.failed

pub returns-clause-frees : goal.returns-clause-frees
returns-clause-frees g c h names is_held =
    let content = view c.args.log.now in
    let e = c.args.entry.now in
    let a = c.args.sectors.now in
    let held = c.args.held.now in
    let count = c.args.count in
    let t0 = taken_of a in
    let t1 = taken_of c.free_triple_indirect_block.new.sectors in
    let t2 = taken_of c.free_double_indirect_block.new.sectors in
    let t3 = taken_of c.free_indirect_block.new.sectors in
    let t4 = taken_of c.free_direct.new.sectors in
    let triple = is_held.triple (omega arith) in
    let top = is_held.top (omega (arith, c.requires.group)) in
    let above = is_held.above (omega (arith, c.requires.group)) in
    let first = c.in_ok-free_triple_indirect_block.ensures in
    let second = c.in_ok-free_double_indirect_block.ensures in
    let same : view c.free_triple_indirect_block.new.log ≡ content = first.reads.view h in
    let same_then : view c.free_double_indirect_block.new.log ≡ content = second.reads.view (first.reads.honest.0 h) ∙ same in
    let of_double : c.taken_or_zero-double.result ≡ named content e (double_indirect_block 0) = c.taken_or_zero-double.ensures ∙ known_at t0 content e names (double_indirect_block 0) (omega arith) (get_or e.pointers 59 0) (λ i. get_or e.pointers 59 0) in
    let of_list : c.taken_or_zero-indirect_block.result ≡ named content e indirect_block = c.taken_or_zero-indirect_block.ensures ∙ known_at t0 content e names indirect_block tt (get_or e.pointers 58 0) (λ i. get_or e.pointers 58 0) in
    let doubles : (m : ℕ) → m < 128 → number_in content held.triple.number m ≢ 0 → number_in content held.triple.number m < end_of a =
    subst (λ (n : ℕ). (m : ℕ) → m < 128 → number_in content n m ≢ 0 → number_in content n m < end_of a) (sym triple.names) (λ m lt. below_end a content e names (double_indirect_block (suc m)) (omega (arith, lt))) in
    let inner : (m i : ℕ) → m < 128 → i < 128 → number_in content (number_in content held.triple.number m) i ≢ 0 → number_in content (number_in content held.triple.number m) i < end_of a =
    subst (λ (n : ℕ). (m i : ℕ) → m < 128 → i < 128 → number_in content (number_in content n m) i ≢ 0 → number_in content (number_in content n m) i < end_of a) (sym triple.names)
    (λ m i lt below. inner_below a content e names (suc m) i (omega (arith, lt)) below) in
    let far : Frees t0 t1 (IsFreedWithTriple content (named content e triple_indirect_block) count) =
    subst (λ (n : ℕ). Frees t0 t1 (IsFreedWithTriple content n count)) triple.names (first.frees h triple.bytes top.bytes above.bytes doubles inner) in
    let near : Frees t1 t2 (IsFreedFirst content e count) =
    subst (λ (n : ℕ). Frees t1 t2 (IsFreedWithDouble content n 186 count)) of_double
    (subst (λ (m : Image). Frees t1 t2 (IsFreedWithDouble m c.taken_or_zero-double.result 186 count)) same
    (second.frees (first.reads.honest.0 h) (top.bytes ∙ sym (ap (λ (m : Image). block_bytes m held.top.number) same)) (above.bytes ∙ sym (ap (λ (m : Image). block_bytes m held.above.number) same))
    (subst (λ (m : Image). (i : ℕ) → i < 128 → number_in m c.taken_or_zero-double.result i ≢ 0 → number_in m c.taken_or_zero-double.result i < end_of c.free_triple_indirect_block.new.sectors) (sym same)
    (subst (λ (n : ℕ). (i : ℕ) → i < 128 → number_in content n i ≢ 0 → number_in content n i < end_of c.free_triple_indirect_block.new.sectors) (sym of_double)
    (subst (λ (end : ℕ). (i : ℕ) → i < 128 → number_in content (named content e (double_indirect_block 0)) i ≢ 0 → number_in content (named content e (double_indirect_block 0)) i < end) (sym first.range.1)
    (λ i lt. inner_below a content e names 0 i (omega arith) lt)))))) in
    let listed : Frees t2 t3 (IsFreedWithBlock content (named content e indirect_block) (count - 58)) =
    subst (λ (n : ℕ). Frees t2 t3 (IsFreedWithBlock content n (count - 58))) of_list
    (frees_at t2 t3 (view c.free_double_indirect_block.new.log) content c.taken_or_zero-indirect_block.result c.saturating_sub-from.result (count - 58) same_then c.saturating_sub-from.ensures
    (c.in_ok-free_indirect_block.ensures.frees (second.reads.honest.0 (first.reads.honest.0 h)) (above.bytes ∙ sym (ap (λ (m : Image). block_bytes m held.above.number) same_then)))) in
    frees_all content e count t0 t4
    (frees_then t0 t3 t4 _ (IsAmong (slice_index e.pointers) count 58)
    (frees_then t0 t2 t3 (IsFreedLater content e count) (IsFreedWithBlock content (named content e indirect_block) (count - 58))
    (frees_then t0 t1 t2 (IsFreedWithTriple content (named content e triple_indirect_block) count) (IsFreedFirst content e count) far near) listed) c.free_direct.ensures.frees)
