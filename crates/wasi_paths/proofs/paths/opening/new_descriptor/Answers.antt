use Rattle.std.proofs.Common.{rules}
use Rattle.wasi_paths.proofs.paths.opening.new_descriptor.Goals as goal

pub returns-clause-rights : goal.returns-clause-rights
returns-clause-rights c = search rules
