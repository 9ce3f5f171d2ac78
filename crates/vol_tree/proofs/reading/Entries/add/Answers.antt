use Rattle.std.proofs.Common.{rules}
use Rattle.vol_tree.proofs.reading.Entries.add.Goals as goal

pub overflow_add-self : goal.overflow_add-self
overflow_add-self c = search rules

pub returns-clause-room : goal.returns-clause-room
returns-clause-room c = search rules
