use Rattle.std.proofs.Common.{rules}
use Rattle.vol_alloc.proofs.sectors.Alloc.is_taken.Goals as goal

pub returns-in-None : goal.returns-in-None
returns-in-None c = search rules
