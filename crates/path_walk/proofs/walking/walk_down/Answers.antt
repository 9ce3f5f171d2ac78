use Rattle.std.proofs.Common.{◌≡◌, ◌≢◌, ◌+◌, ◌<◌, ◌≤◌, ℕ, length, drop, cond, false, [], refl, sym, ◌∙◌, ap, subst, arith, inl, inr, ⊎_elim, drop-drop}
use Rattle.std.proofs.lemmas.Bool.{eqb-true, eqb-false, cond-true}
use Rattle.std.proofs.lemmas.Grind.{common_steps}
use Rattle.vol_tree.specs.Tree.{Tree}
use Rattle.path_walk.specs.Paths.{components_of}
use Rattle.path_walk.specs.internal.Turns.{ends, now_of}
use Rattle.path_walk.specs.internal.Steps.{AreNames}
use Rattle.path_walk.proofs.Turning.{left, left_none, left_more, onward}
use Rattle.path_walk.proofs.Chaining.{asked_then, first_is_name, rest_are_names}
use Rattle.path_walk.proofs.walking.walk_down.Goals as goal

pub advance-requires-clause-name : goal.advance-requires-clause-name
advance-requires-clause-name g c =
    first_is_name c.loop-more.more c.loop-more.rest.now c.split_at.result.0.now c.part_len.result c.loop-more-test.true c.part_len.ensures c.split_at.ensures.front c.loop-more.invariant.names

pub returns-in-Err-clause-answer : goal.returns-in-Err-clause-answer
returns-in-Err-clause-answer g c h =
    let rest = c.loop-more.rest.now in
    let n : ℕ = c.part_len.result in
    let asked = c.loop-more.invariant.asked in
    ⊎_elim (λ step. inl (sym (onward _ _ _ _ _ rest c.split_at.result.0.now (left rest n) n _ _ (asked.tree h) c.loop-more-test.true c.part_len.ensures
    c.split_at.ensures.front refl (c.loop-more.invariant.goes h) step))) (λ io. inr io) (c.in-Err.ensures.answer (asked.kept.honest.0 h) (left rest n))

pub loop-more-preserved-then-is_empty : goal.loop-more-preserved-then-is_empty
loop-more-preserved-then-is_empty g c =
    let rest = c.loop-more.rest.now in
    let n : ℕ = c.part_len.result in
    let asked = c.loop-more.invariant.asked in
    let none : length c.split_at.result.1.now ≡ 0 = eqb-true _ 0 (sym c.is_empty.ensures ∙ c.if-is_empty.true) in
    let short : length rest ≤ n = omega (arith, none, c.split_at.ensures.back_len, c.part_len.ensures.within) in
    record {
      asked = asked_then g.D.Device.honest g.D.Device.disk g.D.Device.size g.D.Device.failures g.D.Device.goes_on c.args.volume.now c.loop-more.volume c.advance.new.volume false asked c.in-Ok.ensures.asked;
      here = c.in-Ok.ensures.here;
      missing = c.in-Ok.ensures.missing;
      names = λ name (k, l, is) plain. absurd (omega (arith, l));
      goes = λ h. ap (λ (T : Tree). ends T c.in-Ok.next (now_of c.in-Ok.gone) []) (sym (asked.tree h))
          ∙ onward _ _ _ _ _ rest c.split_at.result.0.now [] n _ _ (asked.tree h) c.loop-more-test.true c.part_len.ensures c.split_at.ensures.front
          (left_none rest n short) (c.loop-more.invariant.goes h) (c.in-Ok.ensures.answer (asked.kept.honest.0 h) []);
    }

pub loop-more-preserved : goal.loop-more-preserved
loop-more-preserved g c =
    let rest = c.loop-more.rest.now in
    let n : ℕ = c.part_len.result in
    let asked = c.loop-more.invariant.asked in
    let remainder = c.split_at-else-is_empty.result.1.now in
    let some : length c.split_at.result.1.now ≢ 0 = eqb-false _ 0 (sym c.is_empty.ensures ∙ c.if-is_empty.false) in
    let long : n < length rest = omega (arith, some, c.split_at.ensures.back_len, c.part_len.ensures.within) in
    let is : remainder ≡ drop (n + 1) rest = c.split_at-else-is_empty.ensures.back ∙ (ap (drop 1) c.split_at.ensures.back ∙ drop-drop 1 n rest) in
    let all : cond c.loop-more.more (components_of remainder) [] ≡ components_of remainder = cond-true _ _ _ c.loop-more-test.true in
    let after : left rest n ≡ components_of remainder = left_more rest n long ∙ ap components_of (sym is) in
    record {
      asked = asked_then g.D.Device.honest g.D.Device.disk g.D.Device.size g.D.Device.failures g.D.Device.goes_on c.args.volume.now c.loop-more.volume c.advance.new.volume false asked c.in-Ok.ensures.asked;
      here = c.in-Ok.ensures.here;
      missing = c.in-Ok.ensures.missing;
      names = subst AreNames (after ∙ sym all)
          (rest_are_names c.loop-more.more rest c.split_at.result.0.now n c.loop-more-test.true c.part_len.ensures c.split_at.ensures.front c.loop-more.invariant.names);
      goes = λ h. ap (ends c.args.volume.now.tree c.in-Ok.next (now_of c.in-Ok.gone)) all
          ∙ (ap (λ (T : Tree). ends T c.in-Ok.next (now_of c.in-Ok.gone) (components_of remainder)) (sym (asked.tree h))
          ∙ onward _ _ _ _ _ rest c.split_at.result.0.now (components_of remainder) n _ _ (asked.tree h) c.loop-more-test.true c.part_len.ensures c.split_at.ensures.front
          after (c.loop-more.invariant.goes h) (c.in-Ok.ensures.answer (asked.kept.honest.0 h) (components_of remainder)));
    }

pub loop-more-smaller : goal.loop-more-smaller
loop-more-smaller c = grind (arith, common_steps)

pub loop-more-smaller-then-is_empty : goal.loop-more-smaller-then-is_empty
loop-more-smaller-then-is_empty c = grind (arith, common_steps)

pub returns-in-Err-clause-asked : goal.returns-in-Err-clause-asked
returns-in-Err-clause-asked c = grind (arith, common_steps)
