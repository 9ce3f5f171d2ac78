use Rattle.std.proofs.lemmas.Grind.{common_steps}
use Rattle.std.proofs.Common.{◌≡◌, ◌<◌, ◌≤◌, ◌+◌, ◌-◌, ℕ, List, length, take, get_or, true, false, refl, subst, arith}
use Rattle.std.proofs.lemmas.Bool.{false≢true}
use Rattle.std.proofs.lemmas.List.{length-set, take_all}
use Rattle.vol_alloc.specs.Numbers.{ListsNumber, ArePlaces}
use Rattle.vol_alloc.proofs.Free.{flagged}
use Rattle.vol_alloc.proofs.Named.{set_more, each_more, right_more}
use Rattle.vol_alloc.proofs.sectors.take_all.Goals as goal

pub loop-n-preserved : goal.loop-n-preserved
loop-n-preserved c =
    let first = c.args.first in
    let taken = c.loop-n.taken in
    let named = c.args.named.now in
    let i = c.loop-n.n-index in
    let so_far = c.loop-n.invariant in
    let lt : i < length named = omega arith in
    let from : first ≤ get_or named i 0 = c.if-n-first.false in
    let there : get_or named i 0 - first < length taken = omega arith in
    let place = get_or named i 0 - first in
    let clear : get_or taken place false ≡ false = c.if-taken-place-2.false in
    record {
      set = set_more first taken named i lt so_far.set from there;
      each = each_more first taken named i lt so_far.each there;
      counted = omega (arith, flagged taken place false there clear, so_far.counted, length-set taken place true);
      right = right_more first taken named i lt so_far.each so_far.right from there clear;
    }

pub returns-then-n-first : goal.returns-then-n-first
returns-then-n-first c = record {
  taken = λ all. absurd (false≢true all);
  count = λ all. absurd (false≢true all);
  right = λ all. absurd (false≢true all);
  wrong = λ places. absurd (omega (arith, places.from c.loop-n.n-index c.loop-n-test.true, c.if-n-first.true));
}

pub returns : goal.returns
returns c =
    let first = c.args.first in
    let named = c.args.named.now in
    let taken = c.loop-n.taken in
    let so_far = c.loop-n.invariant in
    let all = take_all c.loop-n.n-index named c.loop-n-test.false in
    let count : c.loop-n.n-index ≡ length named = omega (arith, c.loop-n-test.false, c.loop-n.auto.n-index-end) in
    record {
      taken = λ yes n from. (
        λ is. subst (λ (l : List ℕ). ListsNumber l n) all (so_far.set n from is),
        λ names. subst (λ (m : ℕ). get_or taken (m - first) false ≡ true) names.2 (so_far.each names.0 (omega (arith, names.1, count))),
      );
      count = λ yes. omega (arith, so_far.counted, count, c.loop-n.auto.taken);
      right = λ yes. subst (ArePlaces first (first + length c.args.taken.now)) all (subst (λ (m : ℕ). ArePlaces first (first + m) (take c.loop-n.n-index named)) c.loop-n.auto.taken so_far.right);
      wrong = λ places. refl;
    }

pub returns-then-taken-place-clause-wrong : goal.returns-then-taken-place-clause-wrong
returns-then-taken-place-clause-wrong c = grind (arith, common_steps)

pub loop-n-init : goal.loop-n-init
loop-n-init c = grind (arith, common_steps)

pub returns-then-taken-place-clause-taken : goal.returns-then-taken-place-clause-taken
returns-then-taken-place-clause-taken c = grind (arith, common_steps)
