use Rattle.std.proofs.Common.{length, ◌-◌, ◌≢◌, ◌≤◌, ◌<◌, ℕ, get_or}
use Rattle.path_walk.specs.Paths.{slash}
use Rattle.path_walk.proofs.components.part_len.Given as goal

abbrev pub invariant-loop-n : goal.invariant-loop-n
invariant-loop-n l = record {
  within : l.n ≤ length l.text;
  before : (k : ℕ) → k < l.n → get_or l.text k 0 ≢ slash;
}

abbrev pub decreases-loop-n : goal.decreases-loop-n
decreases-loop-n l = length l.text - l.n
