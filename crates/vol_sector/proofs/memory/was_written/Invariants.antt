use Rattle.std.proofs.Common.{◌≡◌, drop, false}
use Rattle.vol_sector.specs.Crash.{written_since}
use Rattle.vol_sector.proofs.memory.was_written.Given as goal

abbrev pub invariant-loop-operation : goal.invariant-loop-operation
invariant-loop-operation l = written_since l.n l.written (drop l.operation-index l.operations) ≡ written_since l.n false l.operations
