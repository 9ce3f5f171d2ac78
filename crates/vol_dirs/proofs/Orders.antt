-- The order of keys: that it is total, and tells all items apart.
use Rattle.std.proofs.Common.{◌≡◌, ℕ, List, [], ◌∷◌, refl, sym}
use Rattle.std.specs.Cmp.{IsTotalOrder}
use Rattle.std.specs.Cmp.Lexicographic.{slice_cmp}
use Rattle.std.specs.Ordering.{ordering_then, nat_cmp}
use Rattle.std.specs.declared.cmp.Ordering.{Ordering}
use Rattle.std.specs.declared.cmp.Ordering.TheVariants.{Less, Equal, Greater}
use Rattle.std.proofs.lemmas.Cmp.{ranked, on_total, then_total, nat_cmp_total, nat_list_cmp_total}
use Rattle.vol_dirs.specs.internal.Rising.{TiesAreEqual}
use Rattle.vol_dirs.specs.internal.Listing.{key_order}

then_ties : (a b : Ordering) → ordering_then a b ≡ Equal → (a ≡ Equal) × (b ≡ Equal)
then_ties Less b tied = cc
then_ties Equal b tied = (refl, tied)
then_ties Greater b tied = cc

nat_ties : TiesAreEqual nat_cmp
nat_ties a b tied = ranked a b Equal (sym tied)

list_ties : TiesAreEqual (slice_cmp nat_cmp)
list_ties [] [] tied = refl
list_ties [] (y ∷ ys) tied = cc
list_ties (x ∷ xs) [] tied = cc
list_ties (x ∷ xs) (y ∷ ys) tied =
    let both = then_ties (nat_cmp x y) (slice_cmp nat_cmp xs ys) tied in
    let first = nat_ties x y both.0 in
    let rest = list_ties xs ys both.1 in
    λ i. first i ∷ rest i

pub key_ties : TiesAreEqual key_order
key_ties a b tied =
    let both = then_ties (slice_cmp nat_cmp a.0 b.0) (nat_cmp a.1 b.1) tied in
    let bytes = list_ties a.0 b.0 both.0 in
    let serial = nat_ties a.1 b.1 both.1 in
    λ i. (bytes i, serial i)

pub key_total : IsTotalOrder key_order
key_total = then_total (on_total (λ (t : List ℕ × ℕ). t.0) nat_list_cmp_total) (on_total (λ (t : List ℕ × ℕ). t.1) nat_cmp_total)
