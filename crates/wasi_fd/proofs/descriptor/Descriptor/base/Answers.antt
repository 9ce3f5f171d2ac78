use Rattle.std.proofs.Common.{rules}
use Rattle.wasi_fd.proofs.descriptor.Descriptor.base.Goals as goal

pub returns-in-Stream-Input : goal.returns-in-Stream-Input
returns-in-Stream-Input c = search rules
