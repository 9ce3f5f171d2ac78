use Rattle.std.proofs.Common.{take}
use Rattle.vol_body.specs.internal.Surveying.{Pushes}
use Rattle.vol_body.proofs.surveying.push_all.Given as goal

abbrev pub invariant-loop-n : goal.invariant-loop-n
invariant-loop-n l = Pushes l.first l.end l.fn.named.items l.named.items (take l.n-index l.numbers)
