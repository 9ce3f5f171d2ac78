use Rattle.std.proofs.Common.{◌≡◌, ◌∙◌, ◌-◌, ℕ, List, [], ◌∷◌, sym, ap, subst, arith}
use Rattle.std.proofs.lemmas.Grind.{common_steps}
use Rattle.vol_sector.specs.Disk.{Image}
use Rattle.vol_inode.specs.Space.{double_blocks_for}
use Rattle.vol_log.specs.Log.{view}
use Rattle.vol_log.proofs.Readings.{reads_same}
use Rattle.vol_body.specs.internal.Surveying.{listed, all_with_all_listed, ListsNoneFrom, DoublesNone}
use Rattle.vol_body.proofs.SurveyExits.{none_of_triple, triple_none, overflows_before, surveys_handed, surveys_none, surveys_then, not_device, or_memory, or_device}
use Rattle.vol_body.proofs.surveying.survey_triple_indirect_block.Goals as goal

pub returns-then-triple_indirect_block-eq0 : goal.returns-then-triple_indirect_block-eq0
returns-then-triple_indirect_block-eq0 g c =
    let content = view c.args.log.now in
    let n = c.args.triple_indirect_block in
    let zero = c.if-triple_indirect_block-eq0.true in
    surveys_none c.args.first c.args.end c.args.log.now c.args.named.now.items _ _ c.requires.inside (none_of_triple content n zero) (triple_none content n c.args.count zero) c.requires.working

pub returns-in_err-push_number : goal.returns-in_err-push_number
returns-in_err-push_number g c =
    let content = view c.args.log.now in
    let n = c.args.triple_indirect_block in
    let x = c.in_err-push_number.field-0.0 in
    let e = c.in_err-push_number.ensures in
    surveys_handed c.args.first c.args.end c.args.log.now c.args.log.now c.args.named.now.items _ _ _ c.from_residual.result x c.from_residual.ensures.1
    (λ h damaged none. overflows_before c.args.first c.args.end c.args.named.now.items (n ∷ []) (all_with_all_listed content (listed content n)) (e.damaged damaged))
    (or_memory x e.refused) (reads_same c.args.log.now) (c.requires.working ∙ sym (not_device x e.refused))

pub returns-in_err-numbers : goal.returns-in_err-numbers
returns-in_err-numbers g c =
    let x = c.in_err-numbers.field-0.0 in
    let e = c.in_err-numbers.ensures in
    let kept : double_blocks_for (c.args.count - 16570) ≡ c.div_ceil-kept.result = omega (arith, c.div_ceil-kept.ensures, c.saturating_sub.ensures) in
    surveys_handed c.args.first c.args.end c.args.log.now c.read_numbers.new.log c.args.named.now.items _ _ _ c.from_residual-in_err-numbers.result x c.from_residual-in_err-numbers.ensures.1
    (λ h damaged none. absurd (e.damaged h damaged (subst (λ (k : ℕ). ListsNoneFrom (view c.args.log.now) c.args.triple_indirect_block k) kept none.own)))
    (or_device x e.refused) e.reads e.failed

pub returns : goal.returns
returns g c =
    let content = view c.args.log.now in
    let n = c.args.triple_indirect_block in
    let numbers = c.in_ok-numbers.numbers in
    let count = c.args.count in
    let e = c.in_ok-numbers.ensures in
    let kept : c.div_ceil-kept.result ≡ double_blocks_for (count - 16570) = omega (arith, c.div_ceil-kept.ensures, c.saturating_sub.ensures) in
    surveys_then c.args.first c.args.end c.args.log.now c.read_numbers.new.log c.survey_double_indirect_blocks.new.log c.args.named.now.items c.push_number.new.named.items c.survey_double_indirect_blocks.new.named.items
    (n ∷ []) (all_with_all_listed content (listed content n)) _ _ _ c.survey_double_indirect_blocks.result (λ h. c.in_ok-push_number.ensures.pushes) e.reads e.failed c.survey_double_indirect_blocks.ensures
    (λ h. ap (λ (m : Image). all_with_all_listed m numbers) (e.reads.view h) ∙ ap (all_with_all_listed content) (e.numbers h))
    (λ h p. record {
      own = subst (λ (k : ℕ). ListsNoneFrom content n k) kept (e.past h);
      doubles = subst (λ (ns : List ℕ). DoublesNone content ns count) (e.numbers h) (subst (λ (m : Image). DoublesNone m numbers count) (e.reads.view h) p);
    })
    (λ h none. subst (λ (m : Image). DoublesNone m numbers count) (sym (e.reads.view h)) (subst (λ (ns : List ℕ). DoublesNone content ns count) (sym (e.numbers h)) none.doubles))

pub survey_double_indirect_blocks-requires-clause-inside : goal.survey_double_indirect_blocks-requires-clause-inside
survey_double_indirect_blocks-requires-clause-inside c = grind (arith, common_steps)
