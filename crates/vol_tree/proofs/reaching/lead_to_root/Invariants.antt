use Rattle.std.proofs.Common.{◌≢◌, ◌<◌, ◌+◌, ℕ, get_or}
use Rattle.vol_tree.specs.internal.Climbs.{LeadsUp, AreMarked}
use Rattle.vol_tree.proofs.reaching.lead_to_root.Given as goal

abbrev pub invariant-loop-s : goal.invariant-loop-s
invariant-loop-s l = record { marks : AreMarked l.parents l.marks.items; leads : (t : ℕ) → t < l.s → get_or l.parents t 0 ≢ 0 → LeadsUp l.parents (t + 1) }
