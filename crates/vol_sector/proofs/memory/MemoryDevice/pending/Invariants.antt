use Rattle.std.proofs.Common.{◌≡◌, ◌≤◌}
use Rattle.vol_sector.specs.Crash.{written_below}
use Rattle.vol_sector.proofs.memory.MemoryDevice.pending.Given as goal

abbrev pub invariant-loop-n : goal.invariant-loop-n
invariant-loop-n l = record { count : l.count ≡ written_below l.self.history.items l.n; most : l.count ≤ l.n }
