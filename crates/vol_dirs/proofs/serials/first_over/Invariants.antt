use Rattle.std.proofs.Common.{◌≡◌, ◌-◌, ◌≤◌, ◌<◌, ℕ, List, length, get_or}
use Rattle.std.specs.declared.cmp.Ordering.TheVariants.{Less}
use Rattle.vol_dirs.specs.internal.Listing.{key_order}
use Rattle.vol_dirs.specs.Serials.{keys_in}
use Rattle.vol_dirs.proofs.serials.first_over.Given as goal

-- those before `low` aren't over the bound, those from `high` on are
abbrev pub invariant-loop-low : goal.invariant-loop-low
invariant-loop-low g l = record {
  within : l.low ≤ l.high;
  top : l.high ≤ length l.serials;
  before : (k : ℕ) (d : List ℕ × ℕ) → k < l.low → key_order (l.key, l.serial) (get_or (keys_in l.keys l.serials) k d) ≡ Less → ⊥;
  from : (k : ℕ) (d : List ℕ × ℕ) → l.high ≤ k → k < length (keys_in l.keys l.serials) → key_order (l.key, l.serial) (get_or (keys_in l.keys l.serials) k d) ≡ Less;
}

abbrev pub decreases-loop-low : goal.decreases-loop-low
decreases-loop-low g l = l.high - l.low
