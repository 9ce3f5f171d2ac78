use Rattle.std.proofs.Common.{not, arith, rules}
use Rattle.std.proofs.lemmas.List.Sums.{count_by-le-length}
use Rattle.vol_alloc.proofs.sectors.Alloc.free_count.Goals as goal

pub overflow_cast-result : goal.overflow_cast-result
overflow_cast-result c = omega (arith, count_by-le-length not c.args.self.now.taken.items)

pub returns : goal.returns
returns c = search rules
