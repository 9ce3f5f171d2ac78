use Rattle.vol_tree.specs.internal.Climbs.{LeadsUp, AreMarked}
use Rattle.vol_tree.proofs.reaching.mark.Given as goal

abbrev pub invariant-loop : goal.invariant-loop
invariant-loop l = record { marks : AreMarked l.parents l.marks; leads : LeadsUp l.parents l.at }
