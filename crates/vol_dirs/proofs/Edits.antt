-- What an item more or less does to items in rising order.
use Rattle.std.proofs.Common.{◌≡◌, inl, inr, ℕ, ◌+◌, ◌-◌, ◌≤◌, ◌<◌, List, length, get_or, ◌∙◌, ap, subst, arith}
use Rattle.std.specs.List.{insert}
use Rattle.std.specs.List.Sorted.{IsPartitionPoint}
use Rattle.std.specs.Cmp.{IsTotalOrder}
use Rattle.std.specs.declared.cmp.Ordering.{Ordering}
use Rattle.std.specs.declared.cmp.Ordering.TheVariants.{Less, Greater}
use Rattle.std.proofs.lemmas.Bool.{cases_lt, cases_eq}
use Rattle.std.proofs.lemmas.List.Edits.{length-insert, get_or-insert_below, get_or-insert_at, get_or-insert_above}
use Rattle.vol_dirs.specs.internal.Rising.{Rises}
use Rattle.vol_dirs.specs.internal.Rising.{TiesAreEqual}
use Rattle.vol_dirs.proofs.Search.{less_back}

module _ {X : Type 0} {order : X → X → Ordering} (o : IsTotalOrder order) (ties : TiesAreEqual order) (xs : List X) (rises : Rises order xs) (x : X) (at : ℕ) where
  module _ (within : at ≤ length xs) (parted : IsPartitionPoint (λ y. order y x ≡ Less) (λ y. order y x ≡ Greater) xs at) where
    longer : length (insert xs at x) ≡ length xs + 1
    longer = length-insert xs at x within

    below : (k : ℕ) (d : X) → k < at → get_or (insert xs at x) k d ≡ get_or xs k d
    below k d lt = get_or-insert_below xs at x d k lt within

    here : (k : ℕ) (d : X) → k ≡ at → get_or (insert xs at x) k d ≡ x
    here k d same = ap (λ (q : ℕ). get_or (insert xs at x) q d) same ∙ get_or-insert_at xs at x d within

    above : (k : ℕ) (d : X) → at < k → get_or (insert xs at x) k d ≡ get_or xs (k - 1) d
    above k d lt = subst (λ q. get_or (insert xs at x) q d ≡ get_or xs (k - 1) d) {x = k - 1 + 1} (omega arith) (get_or-insert_above xs at x d (k - 1) (omega arith) within)

    both : (a b c d : X) → a ≡ c → b ≡ d → order c d ≡ Less → order a b ≡ Less
    both a b c d first second less = cc

    before_others : (i j : ℕ) (d : X) → i < j → j < length xs + 1 → j < at → order (get_or (insert xs at x) i d) (get_or (insert xs at x) j d) ≡ Less
    before_others i j d lt there less = both _ _ (get_or xs i d) (get_or xs j d) (below i d (omega arith)) (below j d less) (rises i j d lt (omega arith))

    after_others : (i j : ℕ) (d : X) → i < j → j < length xs + 1 → at < j → order (get_or (insert xs at x) i d) (get_or (insert xs at x) j d) ≡ Less
    after_others i j d lt there more = elim (cases_lt i at) [
      | inl less ↦ both _ _ (get_or xs i d) (get_or xs (j - 1) d) (below i d less) (above j d more) (rises i (j - 1) d (omega arith) (omega arith))
      | inr le ↦ elim (cases_eq i at) [
        | inl same ↦ both _ _ x (get_or xs (j - 1) d) (here i d same) (above j d more) (less_back o (get_or xs (j - 1) d) x (parted.1 (j - 1) d (omega arith) (omega arith)))
        | inr other ↦ both _ _ (get_or xs (i - 1) d) (get_or xs (j - 1) d) (above i d (omega arith)) (above j d more) (rises (i - 1) (j - 1) d (omega arith) (omega arith))
      ]
    ]

    pub insert_rises : Rises order (insert xs at x)
    insert_rises i j d lt there =
        let inside : j < length xs + 1 = omega (arith, longer) in
        elim (cases_lt j at) [
          | inl less ↦ before_others i j d lt inside less
          | inr le ↦ elim (cases_eq j at) [
            | inl same ↦ both _ _ (get_or xs i d) x (below i d (omega arith)) (here j d same) (parted.0 i d (omega arith) (omega arith))
            | inr other ↦ after_others i j d lt inside (omega arith)
          ]
        ]
