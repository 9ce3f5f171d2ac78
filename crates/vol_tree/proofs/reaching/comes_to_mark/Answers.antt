use Rattle.std.proofs.Common.{inl, inr, ◌≡◌, ◌≢◌, ◌-◌, ◌∙◌, ℕ, true, false, get_or, sym, ap, arith, rules}
use Rattle.std.proofs.lemmas.Bool.{cases_lt, false≢true}
use Rattle.vol_tree.specs.internal.Climbs.{climb}
use Rattle.vol_tree.proofs.WaysUp.{climb_next, leads_from, leads_marked}
use Rattle.vol_tree.proofs.reaching.comes_to_mark.Goals as goal

pub returns-then-has_flag-clause-yes : goal.returns-then-has_flag-clause-yes
returns-then-has_flag-clause-yes c yes_it_is =
    let at = c.loop.at in
    let flag : c.has_flag.result ≡ true = c.if-has_flag.true in
    let some : at ≢ 0 = λ none. false≢true (sym (c.has_flag.ensures.none none) ∙ flag) in
    let mark : get_or c.args.marks.now (at - 1) false ≡ true = sym (c.has_flag.ensures.some (omega (arith, some))) ∙ flag in
    leads_from c.loop.counter c.args.parents.now c.args.serial at c.loop.invariant.is (leads_marked c.args.parents.now c.args.marks.now at c.requires some mark)

pub loop-preserved : goal.loop-preserved
loop-preserved c =
    let at = c.loop.at in
    let parents = c.args.parents.now in
    let counter = c.loop.counter in
    let was = c.loop.invariant in
    let flag : c.has_flag.result ≡ false = c.if-has_flag.false in
    let below : at ≢ 1 = λ top.
    let slot : at - 1 ≡ 0 = omega (arith, top) in
    false≢true (sym flag ∙ c.has_flag.ensures.some (omega (arith, top)) ∙ ap (λ (k : ℕ). get_or c.args.marks.now k false) slot ∙ c.requires.top) in
    record {
      is = climb_next counter parents c.args.serial at c.parent_of-at.result was.is c.parent_of-at.ensures;
      none = λ k lt is. elim (cases_lt k counter) [
        | inl before ↦ was.none k before is
        | inr past ↦ let same : counter ≡ k = omega (arith, lt, past) in below (was.is ∙ ap (λ (n : ℕ). climb n parents c.args.serial) same ∙ is)
      ];
    }

pub returns-clause-no : goal.returns-clause-no
returns-clause-no c = search rules
