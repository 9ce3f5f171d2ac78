use Rattle.std.proofs.Common.{◌≡◌, ◌-◌, ◌<◌, drop, length}
use Rattle.observed_run.specs.Stacks.{Grows, IsStack}
use Rattle.observed_run.proofs.stacks.FuelProfile.enter.Given as goal

-- the outermost functions so far have the node
abbrev pub invariant-loop-depth : goal.invariant-loop-depth
invariant-loop-depth l = Grows l.initial.self l.self
    × (l.node < length l.self.units)
    × IsStack l.self.calls l.node (drop (length l.functions - l.depth) l.functions)
    × (l.self.is_cut ≡ l.initial.self.is_cut)
