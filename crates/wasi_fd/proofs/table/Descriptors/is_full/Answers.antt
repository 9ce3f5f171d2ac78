use Rattle.std.proofs.Common.{rules}
use Rattle.wasi_fd.proofs.table.Descriptors.is_full.Goals as goal

pub returns : goal.returns
returns c = search rules
