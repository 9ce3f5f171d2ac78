use Rattle.std.proofs.Common.{ℕ, List, ◌≡◌, ◌+◌, ◌*◌, ◌<◌, ◌≤◌, Ok, inl, inr, length, take, slice_index, refl, sym, ap, subst, arith}
use Rattle.std.proofs.lemmas.List.{take_all}
use Rattle.std.proofs.lemmas.Bool.{cases_lt}
use Rattle.vol_sector.specs.Disk.{Image}
use Rattle.vol_log.specs.Log.{view}
use Rattle.vol_log.proofs.Readings.{reads_then}
use Rattle.vol_body.specs.internal.Surveying.{with_all_listed, all_with_all_listed, Pushes, Overflows, Surveys, LaterNone}
use Rattle.vol_body.proofs.SurveyExits.{doubles_more, overflows_double, surveys_handed, surveys_none, surveys_then}
use Rattle.vol_body.proofs.surveying.survey_double_indirect_blocks.Goals as goal

pub survey_double_indirect_block-requires : goal.survey_double_indirect_block-requires
survey_double_indirect_block-requires g c =
    let so_far = c.loop-m.invariant in
    record {
      there = subst (λ (n : ℕ). c.args.end ≤ n) (sym so_far.reads.sectors) c.requires.there;
      working = so_far.failed;
      inside = so_far.inside;
      place = omega (arith, c.loop-m-test.true);
    }

pub returns-in_err-survey_double_indirect_block : goal.returns-in_err-survey_double_indirect_block
returns-in_err-survey_double_indirect_block g c =
    let content = view c.args.log.now in
    let m = c.loop-m.m in
    let n = slice_index c.args.double_indirect_blocks.now m in
    let so_far = c.loop-m.invariant in
    let x = c.in_err-survey_double_indirect_block.field-0.0 in
    let e = c.in_err-survey_double_indirect_block.ensures in
    let within : m < length c.args.double_indirect_blocks.now = omega (arith, c.loop-m-test.true) in
    surveys_handed c.args.first c.args.end c.args.log.now c.survey_double_indirect_block.new.log c.args.named.now.items _ _ _ c.from_residual.result x c.from_residual.ensures.1
    (λ h damaged none. overflows_double content c.args.first c.args.end c.args.named.now.items c.loop-m.named.items c.args.double_indirect_blocks.now m within (so_far.pushes h)
    (subst (λ (k : Image). LaterNone k n (16570 + 16384 * m) c.args.count → Overflows c.args.first c.args.end c.loop-m.named.items (with_all_listed k n)) (so_far.reads.view h)
    (e.damaged (so_far.reads.honest.0 h) damaged) (none m c.loop-m-test.true)))
    e.refused (reads_then c.args.log.now c.loop-m.log c.survey_double_indirect_block.new.log so_far.failed so_far.reads e.reads) e.failed

pub loop-m-preserved : goal.loop-m-preserved
loop-m-preserved g c =
    let content = view c.args.log.now in
    let m = c.loop-m.m in
    let blocks = c.args.double_indirect_blocks.now in
    let n = slice_index blocks m in
    let count = c.args.count in
    let so_far = c.loop-m.invariant in
    let within : m < length blocks = omega (arith, c.loop-m-test.true) in
    subst (λ (ns : List ℕ). Surveys c.args.first c.args.end c.args.log.now c.survey_double_indirect_block.new.log c.args.named.now.items c.survey_double_indirect_block.new.named.items ns ((k : ℕ) → k < m + 1 → LaterNone content (slice_index blocks k) (16570 + 16384 * k) count) (Ok tt)) (doubles_more content blocks m within)
    (surveys_then c.args.first c.args.end c.args.log.now c.loop-m.log c.survey_double_indirect_block.new.log c.args.named.now.items c.loop-m.named.items c.survey_double_indirect_block.new.named.items
    (all_with_all_listed content (take m blocks)) (with_all_listed content n) _ _ _ (Ok tt) so_far.pushes so_far.reads so_far.failed c.in_ok-survey_double_indirect_block.ensures
    (λ h. ap (λ (k : Image). with_all_listed k n) (so_far.reads.view h))
    (λ h p k lt. elim (cases_lt k m) [
      | inl below ↦ so_far.past h k below
      | inr le ↦
          let same : m ≡ k = omega arith in
          subst (λ (j : ℕ). LaterNone content (slice_index blocks j) (16570 + 16384 * j) count) same (subst (λ (i : Image). LaterNone i n (16570 + 16384 * m) count) (so_far.reads.view h) p)
    ])
    (λ h none. subst (λ (i : Image). LaterNone i n (16570 + 16384 * m) count) (sym (so_far.reads.view h)) (none m (omega arith))))

pub returns : goal.returns
returns g c =
    let so_far = c.loop-m.invariant in
    let all = take_all c.loop-m.m c.args.double_indirect_blocks.now (omega (arith, c.loop-m-test.false)) in
    record {
      pushes = λ h. subst (λ (l : List ℕ). Pushes c.args.first c.args.end c.args.named.now.items c.loop-m.named.items (all_with_all_listed (view c.args.log.now) l)) all (so_far.pushes h);
      past = λ h m lt. so_far.past h m (omega (arith, lt, c.loop-m-test.false));
      inside = so_far.inside;
      damaged = λ h. tt;
      refused = tt;
      reads = so_far.reads;
      failed = so_far.failed;
    }

pub loop-m-init : goal.loop-m-init
loop-m-init g c = surveys_none c.args.first c.args.end c.args.log.now c.args.named.now.items _ _ c.requires.inside refl (λ k lt. absurd (omega (arith, lt))) c.requires.working
