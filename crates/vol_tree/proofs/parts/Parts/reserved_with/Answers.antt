use Rattle.std.proofs.Common.{rules}
use Rattle.vol_tree.proofs.parts.Parts.reserved_with.Goals as goal

pub returns-else-sum-from : goal.returns-else-sum-from
returns-else-sum-from g c = search rules
