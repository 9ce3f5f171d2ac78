use Rattle.std.proofs.Common.{◌∙◌, ◌+◌, ◌-◌, ◌/◌, ◌<◌, ℕ, List, [], length, sym, ap, arith}
use Rattle.vol_dirs.specs.internal.Listing.{key_order}
use Rattle.vol_dirs.specs.Serials.{keys_in}
use Rattle.vol_dirs.proofs.Orders.{key_total}
use Rattle.vol_dirs.proofs.Places.{as_many, key_there, less_is, less_not, over_after, none_before}
use Rattle.vol_dirs.proofs.serials.first_over.Goals as goal

pub loop-low-preserved-then-is_over : goal.loop-low-preserved-then-is_over
loop-low-preserved-then-is_over g c =
    let inv = c.loop-low.invariant in
    let keys = c.args.keys.now in
    let serials = c.args.serials.now in
    let bound : List ℕ × ℕ = (c.args.key.now, c.args.serial) in
    let middle : ℕ = c.loop-low.low + (c.loop-low.high - c.loop-low.low) / 2 in
    let there : middle < length serials = omega (arith, inv.top, c.loop-low-test.true) in
    let inside : middle < length (keys_in keys serials) = omega (arith, there, as_many keys serials) in
    let same = ap (key_order bound) (key_there keys serials middle ([], 0) there) in
    record {
      within = omega arith;
      top = omega (arith, inv.top);
      before = inv.before;
      from = over_after key_total (keys_in keys serials) c.requires.rises bound middle ([], 0) inside (same ∙ less_is _ (sym c.is_over.ensures ∙ c.if-is_over.true));
    }

pub loop-low-preserved : goal.loop-low-preserved
loop-low-preserved g c =
    let inv = c.loop-low.invariant in
    let keys = c.args.keys.now in
    let serials = c.args.serials.now in
    let bound : List ℕ × ℕ = (c.args.key.now, c.args.serial) in
    let middle : ℕ = c.loop-low.low + (c.loop-low.high - c.loop-low.low) / 2 in
    let there : middle < length serials = omega (arith, inv.top, c.loop-low-test.true) in
    let inside : middle < length (keys_in keys serials) = omega (arith, there, as_many keys serials) in
    let same = ap (key_order bound) (key_there keys serials middle ([], 0) there) in
    record {
      within = omega arith;
      top = inv.top;
      before = none_before key_total (keys_in keys serials) c.requires.rises bound middle ([], 0) inside (λ less. less_not _ (sym c.is_over.ensures ∙ c.if-is_over.false) (sym same ∙ less));
      from = inv.from;
    }
