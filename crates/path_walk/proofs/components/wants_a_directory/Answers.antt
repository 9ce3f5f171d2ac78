use Rattle.std.proofs.Common.{◌≡◌, ◌≢◌, ◌+◌, ◌<◌, ◌≤◌, ℕ, length, drop, List, [], sym, ◌∙◌, ap, arith, drop-drop}
use Rattle.std.proofs.lemmas.Bool.{eqb-true, eqb-false, cond-true}
use Rattle.path_walk.specs.Paths.{parts_of, is_skipped, last_or}
use Rattle.path_walk.proofs.Turning.{last_part, later_part}
use Rattle.path_walk.proofs.components.wants_a_directory.Goals as goal

pub loop-more-preserved-then-is_empty : goal.loop-more-preserved-then-is_empty
loop-more-preserved-then-is_empty c =
    let rest = c.loop-more.rest.now in
    let n : ℕ = c.part_len.result in
    let none : length c.split_at.result.1.now ≡ 0 = eqb-true _ 0 (sym c.is_empty.ensures ∙ c.if-is_empty.true) in
    let short : length rest ≤ n = omega (arith, none, c.split_at.ensures.back_len, c.part_len.ensures.within) in
    c.skips-wants.ensures ∙ (ap is_skipped (c.split_at.ensures.front ∙ sym (last_part rest n c.part_len.ensures short))
    ∙ (sym (cond-true _ (is_skipped (last_or [] (parts_of rest))) c.loop-more.wants c.loop-more-test.true) ∙ c.loop-more.invariant))

pub loop-more-preserved : goal.loop-more-preserved
loop-more-preserved c =
    let rest = c.loop-more.rest.now in
    let n : ℕ = c.part_len.result in
    let remainder = c.split_at-else-is_empty.result.1.now in
    let some : length c.split_at.result.1.now ≢ 0 = eqb-false _ 0 (sym c.is_empty.ensures ∙ c.if-is_empty.false) in
    let long : n < length rest = omega (arith, some, c.split_at.ensures.back_len, c.part_len.ensures.within) in
    let is : remainder ≡ drop (n + 1) rest = c.split_at-else-is_empty.ensures.back ∙ (ap (drop 1) c.split_at.ensures.back ∙ drop-drop 1 n rest) in
    cond-true _ (is_skipped (last_or [] (parts_of remainder))) c.skips-wants.result c.loop-more-test.true
    ∙ (ap (λ (t : List ℕ). is_skipped (last_or [] (parts_of t))) is ∙ (ap is_skipped (sym (later_part rest n c.part_len.ensures long))
    ∙ (sym (cond-true _ (is_skipped (last_or [] (parts_of rest))) c.loop-more.wants c.loop-more-test.true) ∙ c.loop-more.invariant)))
