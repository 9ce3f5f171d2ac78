use Rattle.std.proofs.Common.{◌≡◌, ◌≢◌, ◌<◌, ℕ}
use Rattle.vol_tree.specs.internal.Climbs.{climb}
use Rattle.vol_tree.proofs.reaching.comes_to_mark.Given as goal

abbrev pub invariant-loop : goal.invariant-loop
invariant-loop l = record { is : l.at ≡ climb l.counter l.parents l.serial; none : (k : ℕ) → k < l.counter → climb k l.parents l.serial ≢ 1 }
