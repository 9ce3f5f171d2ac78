use Rattle.std.proofs.Common.{rules}
use Rattle.wasi_fd.proofs.fault.DescriptorFault.errno.Goals as goal

pub returns-in-Full : goal.returns-in-Full
returns-in-Full c = search rules
