use Rattle.std.proofs.Common.{take}
use Rattle.vol_sector.proofs.Crash.{Chosen}
use Rattle.vol_sector.proofs.memory.choice.Given as goal

abbrev pub invariant-loop-operation : goal.invariant-loop-operation
invariant-loop-operation l = Chosen l.n l.first (take l.operation-index l.operations) l.pick l.newest l.chosen l.count
