use Rattle.std.proofs.Common.{◌≡◌, ◌<◌, ◌≤◌, ◌+◌, ◌-◌, ◌∷◌, ℕ, List, length, slice_index_or, sym, ◌∙◌, ap, subst, arith}
use Rattle.std.specs.List.Sorted.{IsPermutation}
use Rattle.std.proofs.lemmas.List.{get_or_default}
use Rattle.std.proofs.lemmas.List.Sorted.{IsPermutation-remove}
use Rattle.vol_dirs.specs.internal.Rising.{Rises}
use Rattle.vol_dirs.specs.internal.Listing.{key_order}
use Rattle.vol_dirs.specs.Serials.{keys_in}
use Rattle.vol_dirs.proofs.Places.{found_for, stands_before, removed_rises}
use Rattle.vol_dirs.proofs.serials.take_out.Goals as goal
use Rattle.vol_dirs.proofs.serials.take_out.Goals.{then-over-eq0-via-then-over-eq0, then-over-eq0-via-else-over-eq0+then-index-serial}

pub returns-then-over-eq0-clause-absent : goal.returns-then-over-eq0-clause-absent
returns-then-over-eq0-clause-absent g c same has =
    let keys : List (List ℕ) = c.args.keys.now in
    let serials : List ℕ = c.args.serials.now.items in
    let s = c.args.serial in
    let over : ℕ = c.first_over-over.result in
    let is : slice_index_or serials has.0 0 ≡ s = get_or_default serials has.0 0 s has.1 ∙ has.2 in
    let first = rw c.deref.ensures.value at c.first_over-over.ensures.first in
    let within : over ≤ length serials = rw c.deref.ensures.value at c.first_over-over.ensures.within in
    let found = found_for keys serials s over c.index-keys-serial.result (omega (arith, c.requires.first, c.requires.last)) c.index-keys-serial.is first in
    let place : has.0 + 1 ≡ over = stands_before keys serials c.requires.rises s over within found has.0 has.1 is in
    elim c.then-over-eq0.branch [
      | then-over-eq0-via-then-over-eq0 w ↦ omega (arith, place, w.if-over-eq0)
      | then-over-eq0-via-else-over-eq0+then-index-serial w ↦
          let here : over - 1 ≡ has.0 = omega (arith, place) in
          let lt : over - 1 < length serials = omega (arith, here, has.1) in
          w.if-index-serial.true (w.index.ensures ∙ get_or_default serials (over - 1) w.index.result.now 0 lt ∙ ap (λ (k : ℕ). slice_index_or serials k 0) here ∙ is)
    ]

pub returns-clause-taken : goal.returns-clause-taken
returns-clause-taken g c taken =
    let serials : List ℕ = c.args.serials.now.items in
    let s = c.args.serial in
    let over : ℕ = c.first_over-over.result in
    let within : over ≤ length serials = rw c.deref.ensures.value at c.first_over-over.ensures.within in
    let lt : over - 1 < length serials = omega (arith, within, c.if-over-eq0.false) in
    let is = sym c.if-index-serial.false ∙ c.index.ensures ∙ get_or_default serials (over - 1) c.index.result.now s lt in
    subst (λ (l : List ℕ). IsPermutation serials (s ∷ l)) (sym c.remove.ensures.items) (IsPermutation-remove serials (over - 1) s lt is)

pub returns-clause-rises : goal.returns-clause-rises
returns-clause-rises g c =
    let keys : List (List ℕ) = c.args.keys.now in
    let serials : List ℕ = c.args.serials.now.items in
    let over : ℕ = c.first_over-over.result in
    let within : over ≤ length serials = rw c.deref.ensures.value at c.first_over-over.ensures.within in
    let lt : over - 1 < length serials = omega (arith, within, c.if-over-eq0.false) in
    subst (λ (l : List ℕ). Rises key_order (keys_in keys l)) (sym c.remove.ensures.items) (removed_rises keys serials c.requires.rises (over - 1) lt)
