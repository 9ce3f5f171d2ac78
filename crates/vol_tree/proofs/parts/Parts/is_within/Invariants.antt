use Rattle.vol_tree.specs.internal.Moves.{ClimbsTo}
use Rattle.vol_tree.proofs.parts.Parts.is_within.Given as goal

abbrev pub invariant-loop-step : goal.invariant-loop-step
invariant-loop-step g l = ClimbsTo l.initial.self l.self l.serial l.fn.directory l.step l.at
