use Rattle.std.proofs.Common.{◌≡◌, ◌≤◌, ◌-◌, ℕ, List, ◌∷◌, ◌++◌, length, take, sym, ap, subst, arith, ◌∙◌}
use Rattle.vol_sector.specs.Disk.{Image}
use Rattle.vol_inode.specs.Space.{blocks_for_size}
use Rattle.vol_log.specs.Log.{view}
use Rattle.vol_body.specs.Body.{indirect_block, double_indirect_block, triple_indirect_block, named}
use Rattle.vol_body.specs.internal.Surveying.{listed, with_listed, with_all_listed, all_with_all_listed, Pushes, Overflows, Surveys, ListsNoneFrom, LaterNone, TripleNone, NamesNonePast}
use Rattle.vol_body.proofs.SurveyExits.{pushes_then, overflows_before, overflows_then, surveys_handed, surveys_then, not_device, or_memory}
use Rattle.vol_body.proofs.Surveyed.{at_every, none_past, past_list, past_later, past_triple}
use Rattle.vol_log.proofs.Readings.{reads_same, reads_then}
use Rattle.vol_body.proofs.surveying.survey_sectors.Goals as goal

pub returns-in_err-push_all : goal.returns-in_err-push_all
returns-in_err-push_all g c =
    let content = view c.args.log.now in
    let e = c.args.entry.now in
    let a = c.args.named.now.items in
    let x = c.in_err-push_all.field-0.0 in
    let front = take 58 e.pointers in
    let next = with_listed content (named content e indirect_block) in
    let double = with_all_listed content (named content e (double_indirect_block 0)) in
    let last = named content e triple_indirect_block ∷ all_with_all_listed content (listed content (named content e triple_indirect_block)) in
    let long : length e.pointers ≡ 61 = omega arith in
    surveys_handed c.args.first c.args.end c.args.log.now c.args.log.now a _ _ _ c.from_residual.result x c.from_residual.ensures.1
    (λ h is past. subst (Overflows c.args.first c.args.end a) (at_every content e long)
    (overflows_before c.args.first c.args.end a ((front ++ next) ++ double) last (overflows_before c.args.first c.args.end a (front ++ next) double (overflows_before c.args.first c.args.end a front next (c.in_err-push_all.ensures.damaged is)))))
    (or_memory x c.in_err-push_all.ensures.refused) (reads_same c.args.log.now) (c.requires.working ∙ sym (not_device x c.in_err-push_all.ensures.refused))

pub returns-in_err-survey_indirect_block : goal.returns-in_err-survey_indirect_block
returns-in_err-survey_indirect_block g c =
    let content = view c.args.log.now in
    let e = c.args.entry.now in
    let a = c.args.named.now.items in
    let b = c.push_all.new.named.items in
    let step = c.in_err-survey_indirect_block.ensures in
    let front = take 58 e.pointers in
    let next = with_listed content (named content e indirect_block) in
    let double = with_all_listed content (named content e (double_indirect_block 0)) in
    let last = named content e triple_indirect_block ∷ all_with_all_listed content (listed content (named content e triple_indirect_block)) in
    let long : length e.pointers ≡ 61 = omega arith in
    let from : c.saturating_sub-from.result ≡ blocks_for_size e.size - 58 = omega (arith, c.saturating_sub-from.ensures, c.div_ceil-count.ensures) in
    surveys_handed c.args.first c.args.end c.args.log.now c.survey_indirect_block.new.log a _ _ _ c.from_residual-in_err-survey_indirect_block.result c.in_err-survey_indirect_block.field-0.0 c.from_residual-in_err-survey_indirect_block.ensures.1
    (λ h is past. subst (Overflows c.args.first c.args.end a) (at_every content e long)
    (overflows_before c.args.first c.args.end a ((front ++ next) ++ double) last (overflows_before c.args.first c.args.end a (front ++ next) double (overflows_then c.args.first c.args.end a b front next c.in_ok-push_all.ensures.pushes
    (step.damaged h is (subst (λ (k : ℕ). ListsNoneFrom content (named content e indirect_block) k) (sym from) (past_list content e past)))))))
    step.refused step.reads step.failed

pub returns-in_err-survey_double_indirect_block : goal.returns-in_err-survey_double_indirect_block
returns-in_err-survey_double_indirect_block g c =
    let content = view c.args.log.now in
    let e = c.args.entry.now in
    let a = c.args.named.now.items in
    let b = c.push_all.new.named.items in
    let d = c.survey_indirect_block.new.named.items in
    let first = c.args.first in
    let end = c.args.end in
    let before = c.in_ok-survey_indirect_block.ensures in
    let step = c.in_err-survey_double_indirect_block.ensures in
    let front = take 58 e.pointers in
    let next = with_listed content (named content e indirect_block) in
    let n = named content e (double_indirect_block 0) in
    let last = named content e triple_indirect_block ∷ all_with_all_listed content (listed content (named content e triple_indirect_block)) in
    let long : length e.pointers ≡ 61 = omega arith in
    let count = c.div_ceil-count.result in
    let is_count : blocks_for_size e.size ≡ count = omega (arith, c.div_ceil-count.ensures) in
    surveys_handed first end c.args.log.now c.survey_double_indirect_block.new.log a _ _ _ c.from_residual-in_err-survey_double_indirect_block.result c.in_err-survey_double_indirect_block.field-0.0 c.from_residual-in_err-survey_double_indirect_block.ensures.1
    (λ h is past. subst (Overflows first end a) (at_every content e long)
    (overflows_before first end a ((front ++ next) ++ with_all_listed content n) last
    (overflows_then first end a d (front ++ next) (with_all_listed content n) (pushes_then first end a b d front next c.in_ok-push_all.ensures.pushes (before.pushes h))
    (subst (λ (m : Image). LaterNone m n 186 count → Overflows first end d (with_all_listed m n)) (before.reads.view h) (step.damaged (before.reads.honest.0 h) is)
    (subst (λ (k : ℕ). LaterNone content n 186 k) is_count (past_later content e past))))))
    step.refused (reads_then c.args.log.now c.survey_indirect_block.new.log c.survey_double_indirect_block.new.log before.failed before.reads step.reads) step.failed

pub returns : goal.returns
returns g c =
    let content = view c.args.log.now in
    let e = c.args.entry.now in
    let a = c.args.named.now.items in
    let b = c.push_all.new.named.items in
    let d = c.survey_indirect_block.new.named.items in
    let y = c.survey_double_indirect_block.new.named.items in
    let z = c.survey_triple_indirect_block.new.named.items in
    let first = c.args.first in
    let end = c.args.end in
    let front = take 58 e.pointers in
    let next = with_listed content (named content e indirect_block) in
    let n = named content e (double_indirect_block 0) in
    let m = named content e triple_indirect_block in
    let count = c.div_ceil-count.result in
    let is_count : count ≡ blocks_for_size e.size = omega (arith, c.div_ceil-count.ensures) in
    let from : c.saturating_sub-from.result ≡ blocks_for_size e.size - 58 = omega (arith, c.saturating_sub-from.ensures, c.div_ceil-count.ensures) in
    let long : length e.pointers ≡ 61 = omega arith in
    let step = c.in_ok-survey_indirect_block.ensures in
    let then = c.in_ok-survey_double_indirect_block.ensures in
    let both = reads_then c.args.log.now c.survey_indirect_block.new.log c.survey_double_indirect_block.new.log step.failed step.reads then.reads in
    subst (λ (ns : List ℕ). Surveys first end c.args.log.now c.survey_triple_indirect_block.new.log a z ns (NamesNonePast content e) c.survey_triple_indirect_block.result) (at_every content e long)
    (surveys_then first end c.args.log.now c.survey_double_indirect_block.new.log c.survey_triple_indirect_block.new.log a y z ((front ++ next) ++ with_all_listed content n) (m ∷ all_with_all_listed content (listed content m)) _ _ _ c.survey_triple_indirect_block.result
    (λ h. pushes_then first end a d y (front ++ next) (with_all_listed content n) (pushes_then first end a b d front next c.in_ok-push_all.ensures.pushes (step.pushes h))
    (subst (λ (i : Image). Pushes first end d y (with_all_listed i n)) (step.reads.view h) (then.pushes (step.reads.honest.0 h)))) both then.failed c.survey_triple_indirect_block.ensures
    (λ h. ap (λ (i : Image). m ∷ all_with_all_listed i (listed i m)) (both.view h))
    (λ h p. none_past content e c.requires.pointers (subst (λ (k : ℕ). ListsNoneFrom content (named content e indirect_block) k) from (step.past h))
    (subst (λ (k : ℕ). LaterNone content n 186 k) is_count (subst (λ (i : Image). LaterNone i n 186 count) (step.reads.view h) (then.past (step.reads.honest.0 h))))
    (subst (λ (k : ℕ). TripleNone content m k) is_count (subst (λ (i : Image). TripleNone i m count) (both.view h) p)))
    (λ h past. subst (λ (i : Image). TripleNone i m count) (sym (both.view h)) (subst (λ (k : ℕ). TripleNone content m k) (sym is_count) (past_triple content e past))))

pub push_all-requires : goal.push_all-requires
push_all-requires g c = c.requires.inside

pub survey_indirect_block-requires : goal.survey_indirect_block-requires
survey_indirect_block-requires g c = record { there = c.requires.there; working = c.requires.working; inside = c.in_ok-push_all.ensures.pushes.inside }

pub survey_double_indirect_block-requires : goal.survey_double_indirect_block-requires
survey_double_indirect_block-requires g c =
    let e = c.in_ok-survey_indirect_block.ensures in
    record { there = subst (λ (n : ℕ). c.args.end ≤ n) (sym e.reads.sectors) c.requires.there; working = e.failed; inside = e.inside; place = omega arith }

pub survey_triple_indirect_block-requires : goal.survey_triple_indirect_block-requires
survey_triple_indirect_block-requires g c =
    let e = c.in_ok-survey_indirect_block.ensures in
    let f = c.in_ok-survey_double_indirect_block.ensures in
    record { there = omega (arith, f.reads.sectors, e.reads.sectors, c.requires.there); working = f.failed; inside = f.inside }
