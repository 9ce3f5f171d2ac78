use Rattle.std.proofs.Common.{rules}
use Rattle.path_walk.proofs.path.Path.wants_dir.Goals as goal

pub returns : goal.returns
returns c = search rules
