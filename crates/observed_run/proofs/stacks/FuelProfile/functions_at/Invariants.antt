use Rattle.std.proofs.Common.{◌++◌, ◌<◌, List, ℕ, length}
use Rattle.observed_run.specs.Stacks.{IsStack}
use Rattle.observed_run.proofs.stacks.FuelProfile.functions_at.Given as goal

-- what is found stands on the functions of the node that is next
abbrev pub invariant-loop-at : goal.invariant-loop-at
invariant-loop-at l = (l.at < length l.self.units)
    × ((below : List ℕ) → IsStack l.self.calls l.at below → IsStack l.self.calls l.node (l.functions.items ++ below))

abbrev pub decreases-loop-at : goal.decreases-loop-at
decreases-loop-at l = l.at
