use Rattle.std.proofs.Common.{rules}
use Rattle.vol_dirs.proofs.dirs.Dirs.lookup.Goals as goal

pub returns-clause-found : goal.returns-clause-found
returns-clause-found g c = search rules
