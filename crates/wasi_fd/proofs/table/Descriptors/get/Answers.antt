use Rattle.std.proofs.Common.{rules}
use Rattle.wasi_fd.proofs.table.Descriptors.get.Goals as goal

pub returns-in-Some-Some-clause-open : goal.returns-in-Some-Some-clause-open
returns-in-Some-Some-clause-open c = search rules

pub returns-in_default-clause-closed : goal.returns-in_default-clause-closed
returns-in_default-clause-closed c = search rules
