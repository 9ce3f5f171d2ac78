use Rattle.std.proofs.Common.{◌≡◌, ◌≢◌, ◌+◌, ◌<◌, ◌≤◌, ℕ, length, drop, cond, [], false, refl, sym, ◌∙◌, ap, arith, drop-drop}
use Rattle.std.proofs.lemmas.Bool.{eqb-true, eqb-false, cond-true, false≢true}
use Rattle.std.proofs.lemmas.Grind.{common_steps}
use Rattle.path_walk.specs.Paths.{components_of, stays_inside}
use Rattle.path_walk.proofs.Turning.{left, left_none, left_more, inward}
use Rattle.path_walk.proofs.components.stays_inside.Goals as goal

pub returns-in-None : goal.returns-in-None
returns-in-None c =
    let rest = c.loop-more.rest.now in
    let n : ℕ = c.part_len.result in
    inward c.loop-more.depth _ rest c.split_at.result.0.now (left rest n) n _ false c.loop-more-test.true c.part_len.ensures c.split_at.ensures.front refl c.loop-more.invariant.goes
    (c.in-None.ensures.meaning (left rest n))

pub loop-more-preserved-then-is_empty : goal.loop-more-preserved-then-is_empty
loop-more-preserved-then-is_empty c =
    let rest = c.loop-more.rest.now in
    let n : ℕ = c.part_len.result in
    let none : length c.split_at.result.1.now ≡ 0 = eqb-true _ 0 (sym c.is_empty.ensures ∙ c.if-is_empty.true) in
    let short : length rest ≤ n = omega (arith, none, c.split_at.ensures.back_len, c.part_len.ensures.within) in
    record {
      room = λ never. absurd (false≢true never);
      goes = inward c.loop-more.depth _ rest c.split_at.result.0.now [] n _ _ c.loop-more-test.true c.part_len.ensures c.split_at.ensures.front (left_none rest n short)
          c.loop-more.invariant.goes (c.in-Some.ensures.meaning []);
    }

pub loop-more-preserved : goal.loop-more-preserved
loop-more-preserved c =
    let rest = c.loop-more.rest.now in
    let n : ℕ = c.part_len.result in
    let remainder = c.split_at-else-is_empty.result.1.now in
    let some : length c.split_at.result.1.now ≢ 0 = eqb-false _ 0 (sym c.is_empty.ensures ∙ c.if-is_empty.false) in
    let long : n < length rest = omega (arith, some, c.split_at.ensures.back_len, c.part_len.ensures.within) in
    let is : remainder ≡ drop (n + 1) rest = c.split_at-else-is_empty.ensures.back ∙ (ap (drop 1) c.split_at.ensures.back ∙ drop-drop 1 n rest) in
    let all : cond c.loop-more.more (components_of remainder) [] ≡ components_of remainder = cond-true _ _ _ c.loop-more-test.true in
    let before = c.loop-more.invariant.room c.loop-more-test.true in
    record {
      room = λ on. omega (arith, before, c.in-Some.ensures.room, c.split_at.ensures.front_len, c.split_at.ensures.back_len, c.split_at-else-is_empty.ensures.back_len, long);
      goes = ap (stays_inside c.in-Some.next) all
          ∙ inward c.loop-more.depth _ rest c.split_at.result.0.now (components_of remainder) n _ _ c.loop-more-test.true c.part_len.ensures c.split_at.ensures.front
          (left_more rest n long ∙ ap components_of (sym is)) c.loop-more.invariant.goes (c.in-Some.ensures.meaning (components_of remainder));
    }

pub loop-more-smaller : goal.loop-more-smaller
loop-more-smaller c = grind (arith, common_steps)

pub loop-more-smaller-then-is_empty : goal.loop-more-smaller-then-is_empty
loop-more-smaller-then-is_empty c = grind (arith, common_steps)
