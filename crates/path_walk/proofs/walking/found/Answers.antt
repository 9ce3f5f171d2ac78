use Rattle.std.proofs.Common.{rules}
use Rattle.path_walk.proofs.walking.found.Goals as goal

pub returns-clause-answer : goal.returns-clause-answer
returns-clause-answer g c = search rules
