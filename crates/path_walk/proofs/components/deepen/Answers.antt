use Rattle.std.proofs.Common.{rules, arith}
use Rattle.std.proofs.lemmas.Grind.{common_steps}
use Rattle.path_walk.proofs.components.deepen.Goals as goal

pub returns-clause-meaning : goal.returns-clause-meaning
returns-clause-meaning c = search rules

pub overflow_add-result : goal.overflow_add-result
overflow_add-result c = grind (arith, common_steps)

pub returns-then-not-goes_up-clause-room : goal.returns-then-not-goes_up-clause-room
returns-then-not-goes_up-clause-room c = grind (arith, common_steps)
