use Rattle.std.proofs.Common.{rules}
use Rattle.wasi_fd.proofs.descriptor.Descriptor.inheriting.Goals as goal

pub returns-in-Stream : goal.returns-in-Stream
returns-in-Stream c = search rules
