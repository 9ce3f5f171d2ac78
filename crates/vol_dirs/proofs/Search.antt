-- What a binary search among items in rising order finds.
use Rattle.std.proofs.Common.{◌≡◌, inl, inr, ℕ, ◌≤◌, ◌<◌, List, length, get_or, sym, ◌∙◌, ap, arith}
use Rattle.std.specs.Cmp.{IsTotalOrder}
use Rattle.std.specs.Ordering.{ordering_reverse}
use Rattle.std.specs.declared.cmp.Ordering.{Ordering}
use Rattle.std.specs.declared.cmp.Ordering.TheVariants.{Less, Greater}
use Rattle.std.proofs.lemmas.Bool.{cases_lt, cases_eq}
use Rattle.std.proofs.lemmas.List.{get_or_default}
use Rattle.vol_dirs.specs.internal.Rising.{Rises}
use Rattle.vol_dirs.specs.internal.Rising.{IsFirstOver, IsLeastOver, NoneIsOver}

module _ {X : Type 0} {order : X → X → Ordering} (o : IsTotalOrder order) where
  -- the other way round
  pub greater_back : (a b : X) → order a b ≡ Less → order b a ≡ Greater
  greater_back a b less = o.antisymm b a ∙ ap ordering_reverse less

  pub less_back : (a b : X) → order a b ≡ Greater → order b a ≡ Less
  less_back a b greater = o.antisymm b a ∙ ap ordering_reverse greater

  pub not_both : (a b : X) → order a b ≡ Less → order b a ≡ Less → ⊥
  not_both a b less back = let e = greater_back a b less in cc

  pub not_itself : (a b : X) → a ≡ b → order a b ≡ Less → ⊥
  not_itself a b same less = not_both a b less (ap (λ (x : X). order x a) (sym same) ∙ (ap (order a) same ∙ less))

  module _ (xs : List X) (rises : Rises order xs) (x : X) where
    pub least_of_first : (at : ℕ) (item : X) → IsFirstOver order xs x at → at < length xs → item ≡ get_or xs at item → IsLeastOver order xs x item
    least_of_first at item first there is = record {
      there = (at, there, sym is);
      over = ap (order x) is ∙ first.from at item (omega arith) there;
      least = λ y has over less.
          let k = has.0 in
          let here : get_or xs k item ≡ y = get_or_default xs k item y has.1 ∙ has.2 in
          elim (cases_lt k at) [
            | inl lt ↦ first.before k item lt (ap (order x) here ∙ over)
            | inr le ↦ elim (cases_eq k at) [
              | inl same ↦ not_itself y item (sym here ∙ (ap (λ (q : ℕ). get_or xs q item) same ∙ sym is)) less
              | inr other ↦
                  let rest = rises at k item (omega arith) has.1 in
                  not_both y item less (ap (λ (z : X). order z y) is ∙ (ap (order (get_or xs at item)) (sym here) ∙ rest))
            ]
          ];
    }

    pub none_of_first : (at : ℕ) → IsFirstOver order xs x at → length xs ≤ at → NoneIsOver order xs x
    none_of_first at first le y has over = first.before has.0 y (omega (arith, has.1)) (ap (order x) has.2 ∙ over)
