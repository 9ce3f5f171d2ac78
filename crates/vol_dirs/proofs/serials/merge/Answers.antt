use Rattle.std.proofs.Common.{◌≡◌, ◌<◌, ◌≤◌, ◌+◌, ◌-◌, ◌∷◌, ◌++◌, ℕ, List, [], length, slice_index_or, sym, ◌∙◌, ap, subst, arith}
use Rattle.std.specs.Prelude.{slice_range}
use Rattle.std.proofs.lemmas.List.{length-append}
use Rattle.std.specs.List.Sorted.{IsPermutation}
use Rattle.vol_dirs.specs.internal.Rising.{Rises, IsFirstOver, AreApart}
use Rattle.vol_dirs.specs.internal.Listing.{key_order}
use Rattle.vol_dirs.specs.Serials.{key_at, keys_in, AreSerials}
use Rattle.vol_dirs.proofs.Places.{found_for}
use Rattle.vol_dirs.proofs.Merging.{HasMerged, long_merged, late_merged, all_merged, moved_all, in_order, order_rises, from_le, part_before, before_rest, part_fits}
use Rattle.vol_dirs.proofs.serials.merge.Goals as goal

-- what was found for the key of a serial of the late list
found_late : (keys : List (List ℕ)) (long late : List ℕ) (i at : ℕ) (key : List ℕ) → AreSerials (length keys) late → i < length late → key ≡ slice_index_or keys (slice_index_or late i 0 - 1) key
    → IsFirstOver key_order (keys_in keys long) (key, slice_index_or late i 0) at → IsFirstOver key_order (keys_in keys long) (key_at keys (slice_index_or late i 0)) at
found_late keys long late i at key serials inside is first =
    let bounds = serials i inside in
    found_for keys long (slice_index_or late i 0) at key (omega (arith, bounds.0, bounds.1)) is first

-- and it is no earlier than what was merged before
starts : (keys : List (List ℕ)) (long late : List ℕ) (from i : ℕ) (merged : List ℕ) (at : ℕ) (key : List ℕ) → AreApart (long ++ late) → AreSerials (length keys) late → HasMerged keys long late from i merged → i < length late → from ≤ length long → at ≤ length long
    → key ≡ slice_index_or keys (slice_index_or late i 0 - 1) key → IsFirstOver key_order (keys_in keys long) (key, slice_index_or late i 0) at → from ≤ at
starts keys long late from i merged at key apart serials done inside first within is found = from_le keys long late apart from i merged done at inside within (found_late keys long late i at key serials inside is found) first

pub slice_bounds-append-count : goal.slice_bounds-append-count
slice_bounds-append-count g c = starts c.args.keys.now c.args.long.now c.args.late.now c.loop-i.from c.loop-i.i c.loop-i.merged.items c.first_over-at.result c.index-keys-serial.result c.requires.apart c.requires.late c.loop-i.invariant.done (omega (arith, c.loop-i-test.true)) c.loop-i.invariant.within c.first_over-at.ensures.within c.index-keys-serial.is c.first_over-at.ensures.first

pub slice_bounds-append-start : goal.slice_bounds-append-start
slice_bounds-append-start g c = starts c.args.keys.now c.args.long.now c.args.late.now c.loop-i.from c.loop-i.i c.loop-i.merged.items c.first_over-at.result c.index-keys-serial.result c.requires.apart c.requires.late c.loop-i.invariant.done (omega (arith, c.loop-i-test.true)) c.loop-i.invariant.within c.first_over-at.ensures.within c.index-keys-serial.is c.first_over-at.ensures.first

pub append-requires : goal.append-requires
append-requires g c =
    let long : List ℕ = c.args.long.now in
    let late : List ℕ = c.args.late.now in
    let inside : c.loop-i.i < length late = omega (arith, c.loop-i-test.true) in
    record {
      room = part_fits c.args.keys.now long late c.loop-i.from c.loop-i.i c.loop-i.merged.items c.loop-i.invariant.done (omega arith) c.first_over-at.result _ (starts c.args.keys.now long late c.loop-i.from c.loop-i.i c.loop-i.merged.items c.first_over-at.result c.index-keys-serial.result c.requires.apart c.requires.late c.loop-i.invariant.done inside c.loop-i.invariant.within c.first_over-at.ensures.within c.index-keys-serial.is c.first_over-at.ensures.first) c.first_over-at.ensures.within
          (omega (arith, c.first_over-at.ensures.within, inside, c.requires.room, length-append long late, c.loop-i.invariant.capacity));
    }

pub push_reserved-requires : goal.push_reserved-requires
push_reserved-requires g c =
    let long : List ℕ = c.args.long.now in
    let late : List ℕ = c.args.late.now in
    let inside : c.loop-i.i < length late = omega (arith, c.loop-i-test.true) in
    let at : ℕ = c.first_over-at.result in
    let fits : length (c.loop-i.merged.items ++ slice_range long c.loop-i.from at) ≤ at + c.loop-i.i = part_fits c.args.keys.now long late c.loop-i.from c.loop-i.i c.loop-i.merged.items c.loop-i.invariant.done (omega arith) at (at + c.loop-i.i) (starts c.args.keys.now long late c.loop-i.from c.loop-i.i c.loop-i.merged.items c.first_over-at.result c.index-keys-serial.result c.requires.apart c.requires.late c.loop-i.invariant.done inside c.loop-i.invariant.within c.first_over-at.ensures.within c.index-keys-serial.is c.first_over-at.ensures.first) c.first_over-at.ensures.within (omega arith) in
    let many = ap length c.append.ensures.items in
    omega (arith, fits, many, c.append.new.serials.ok.0, c.append.ensures.capacity, c.first_over-at.ensures.within, inside, c.requires.room, length-append long late, c.loop-i.invariant.capacity)

pub loop-i-preserved : goal.loop-i-preserved
loop-i-preserved g c =
    let keys : List (List ℕ) = c.args.keys.now in
    let long : List ℕ = c.args.long.now in
    let late : List ℕ = c.args.late.now in
    let from : ℕ = c.loop-i.from in
    let i : ℕ = c.loop-i.i in
    let merged : List ℕ = c.loop-i.merged.items in
    let at : ℕ = c.first_over-at.result in
    let done = c.loop-i.invariant.done in
    let within = c.first_over-at.ensures.within in
    let inside : i < length late = omega (arith, c.loop-i-test.true) in
    let found = found_late keys long late i at c.index-keys-serial.result c.requires.late inside c.index-keys-serial.is c.first_over-at.ensures.first in
    let le = starts c.args.keys.now long late c.loop-i.from c.loop-i.i c.loop-i.merged.items c.first_over-at.result c.index-keys-serial.result c.requires.apart c.requires.late c.loop-i.invariant.done inside c.loop-i.invariant.within c.first_over-at.ensures.within c.index-keys-serial.is c.first_over-at.ensures.first in
    let late_order = in_order keys late c.requires.late_rises in
    let with_part = long_merged keys long late from i merged done at le within (in_order keys long c.requires.long_rises) (part_before keys long late c.requires.apart from i merged done at inside within found le late_order) in
    let with_serial = late_merged keys long late at i (merged ++ slice_range long from at) with_part inside late_order (before_rest keys long late c.requires.apart from i merged done at inside within found) in
    let items = c.push_reserved.ensures.items ∙ ap (λ (l : List ℕ). l ++ slice_index_or late i 0 ∷ []) c.append.ensures.items in
    record {
      done = subst (λ (l : List ℕ). HasMerged keys long late at (i + 1) l) (sym items) with_serial;
      within = within;
      capacity = omega (arith, c.loop-i.invariant.capacity, c.append.ensures.capacity, c.push_reserved.ensures.capacity);
    }

pub append-requires-2 : goal.append-requires-2
append-requires-2 g c =
    let long : List ℕ = c.args.long.now in
    let late : List ℕ = c.args.late.now in
    let within : c.loop-i.i ≤ length late = omega (arith, c.loop-i.auto.i-end) in
    record {
      room = part_fits c.args.keys.now long late c.loop-i.from c.loop-i.i c.loop-i.merged.items c.loop-i.invariant.done within (length long) _ c.loop-i.invariant.within (omega arith)
          (omega (arith, within, c.requires.room, length-append long late, c.loop-i.invariant.capacity));
    }

pub returns-clause-moved : goal.returns-clause-moved
returns-clause-moved g c =
    let late : List ℕ = c.args.late.now in
    let done = all_merged c.args.keys.now c.args.long.now late c.loop-i.from c.loop-i.i c.loop-i.merged.items c.loop-i.invariant.done c.loop-i.invariant.within (omega (arith, c.loop-i-test.false)) (in_order c.args.keys.now c.args.long.now c.requires.long_rises) in
    subst (λ (l : List ℕ). IsPermutation (c.args.long.now ++ late) l) (sym c.append-2.ensures.items) (moved_all c.args.keys.now c.args.long.now late c.loop-i.i _ done (omega (arith, c.loop-i-test.false)))

pub returns-clause-rises : goal.returns-clause-rises
returns-clause-rises g c =
    let keys : List (List ℕ) = c.args.keys.now in
    let done = all_merged keys c.args.long.now c.args.late.now c.loop-i.from c.loop-i.i c.loop-i.merged.items c.loop-i.invariant.done c.loop-i.invariant.within (omega (arith, c.loop-i-test.false)) (in_order keys c.args.long.now c.requires.long_rises) in
    subst (λ (l : List ℕ). Rises key_order (keys_in keys l)) (sym c.append-2.ensures.items) (order_rises keys _ done.ordered)
