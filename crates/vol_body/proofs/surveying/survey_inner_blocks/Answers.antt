use Rattle.std.proofs.Common.{ℕ, List, ◌≡◌, ◌-◌, ◌+◌, ◌*◌, ◌<◌, ◌≤◌, Ok, inl, inr, length, take, slice_index, refl, sym, ap, subst, arith}
use Rattle.std.proofs.lemmas.List.{take_all}
use Rattle.std.proofs.lemmas.Bool.{cases_lt}
use Rattle.vol_sector.specs.Disk.{Image}
use Rattle.vol_log.specs.Log.{view}
use Rattle.vol_log.proofs.Readings.{reads_then}
use Rattle.vol_body.specs.internal.Surveying.{with_listed, all_listed, Pushes, Overflows, Surveys, ListsNoneFrom}
use Rattle.vol_body.proofs.SurveyExits.{listed_more, overflows_list, surveys_handed, surveys_none, surveys_then}
use Rattle.vol_body.proofs.surveying.survey_inner_blocks.Goals as goal

pub survey_indirect_block-requires : goal.survey_indirect_block-requires
survey_indirect_block-requires g c =
    let so_far = c.loop-i.invariant in
    record {
      there = subst (λ (n : ℕ). c.args.end ≤ n) (sym so_far.reads.sectors) c.requires.there;
      working = so_far.failed;
      inside = so_far.inside;
    }

pub returns-in_err-survey_indirect_block : goal.returns-in_err-survey_indirect_block
returns-in_err-survey_indirect_block g c =
    let content = view c.args.log.now in
    let i = c.loop-i.i in
    let n = slice_index c.args.inner_blocks.now i in
    let so_far = c.loop-i.invariant in
    let x = c.in_err-survey_indirect_block.field-0.0 in
    let e = c.in_err-survey_indirect_block.ensures in
    let within : i < length c.args.inner_blocks.now = omega (arith, c.loop-i-test.true) in
    surveys_handed c.args.first c.args.end c.args.log.now c.survey_indirect_block.new.log c.args.named.now.items _ _ _ c.from_residual.result x c.from_residual.ensures.1
    (λ h damaged none. overflows_list content c.args.first c.args.end c.args.named.now.items c.loop-i.named.items c.args.inner_blocks.now i within (so_far.pushes h)
    (subst (λ (k : ℕ). ListsNoneFrom content n k → Overflows c.args.first c.args.end c.loop-i.named.items (with_listed content n)) c.saturating_sub-from.ensures
    (subst (λ (m : Image). ListsNoneFrom m n c.saturating_sub-from.result → Overflows c.args.first c.args.end c.loop-i.named.items (with_listed m n)) (so_far.reads.view h)
    (e.damaged (so_far.reads.honest.0 h) damaged)) (none i c.loop-i-test.true)))
    e.refused (reads_then c.args.log.now c.loop-i.log c.survey_indirect_block.new.log so_far.failed so_far.reads e.reads) e.failed

pub loop-i-preserved : goal.loop-i-preserved
loop-i-preserved g c =
    let content = view c.args.log.now in
    let i = c.loop-i.i in
    let blocks = c.args.inner_blocks.now in
    let n = slice_index blocks i in
    let from = c.saturating_sub-from in
    let so_far = c.loop-i.invariant in
    let within : i < length blocks = omega (arith, c.loop-i-test.true) in
    subst (λ (ns : List ℕ). Surveys c.args.first c.args.end c.args.log.now c.survey_indirect_block.new.log c.args.named.now.items c.survey_indirect_block.new.named.items ns ((k : ℕ) → k < i + 1 → ListsNoneFrom content (slice_index blocks k) (c.args.count - (c.args.start + 128 * k))) (Ok tt)) (listed_more content blocks i within)
    (surveys_then c.args.first c.args.end c.args.log.now c.loop-i.log c.survey_indirect_block.new.log c.args.named.now.items c.loop-i.named.items c.survey_indirect_block.new.named.items
    (all_listed content (take i blocks)) (with_listed content n) _ _ _ (Ok tt) so_far.pushes so_far.reads so_far.failed c.in_ok-survey_indirect_block.ensures
    (λ h. ap (λ (m : Image). with_listed m n) (so_far.reads.view h))
    (λ h p k lt. elim (cases_lt k i) [
      | inl below ↦ so_far.past h k below
      | inr le ↦
          let same : i ≡ k = omega arith in
          subst (λ (j : ℕ). ListsNoneFrom content (slice_index blocks j) (c.args.count - (c.args.start + 128 * j))) same
          (subst (λ (k : ℕ). ListsNoneFrom content n k) from.ensures (subst (λ (m : Image). ListsNoneFrom m n from.result) (so_far.reads.view h) p))
    ])
    (λ h none. subst (λ (m : Image). ListsNoneFrom m n from.result) (sym (so_far.reads.view h)) (subst (λ (k : ℕ). ListsNoneFrom content n k) (sym from.ensures) (none i (omega arith)))))

pub returns : goal.returns
returns g c =
    let so_far = c.loop-i.invariant in
    let all = take_all c.loop-i.i c.args.inner_blocks.now (omega (arith, c.loop-i-test.false)) in
    record {
      pushes = λ h. subst (λ (l : List ℕ). Pushes c.args.first c.args.end c.args.named.now.items c.loop-i.named.items (all_listed (view c.args.log.now) l)) all (so_far.pushes h);
      past = λ h i lt. so_far.past h i (omega (arith, lt, c.loop-i-test.false));
      inside = so_far.inside;
      damaged = λ h. tt;
      refused = tt;
      reads = so_far.reads;
      failed = so_far.failed;
    }

pub loop-i-init : goal.loop-i-init
loop-i-init g c = surveys_none c.args.first c.args.end c.args.log.now c.args.named.now.items _ _ c.requires.inside refl (λ k lt. absurd (omega (arith, lt))) c.requires.working
