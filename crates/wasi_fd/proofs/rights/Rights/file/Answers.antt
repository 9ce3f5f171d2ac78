use Rattle.std.proofs.Common.{rules}
use Rattle.wasi_fd.proofs.rights.Rights.file.Goals as goal

pub returns : goal.returns
returns c = search rules
