use Rattle.std.proofs.Common.{◌≡◌, ◌<◌, [], ℕ, length, get_or, min}
use Rattle.vol_sector.specs.Record.{image_of}
use Rattle.vol_sector.specs.Crash.{written_below, crashed_image}
use Rattle.vol_sector.proofs.memory.MemoryDevice.crashed.Given as goal

abbrev pub invariant-loop-n : goal.invariant-loop-n
invariant-loop-n l = record {
  count : length l.image.items ≡ l.n;
  used : l.used ≡ min (written_below l.self.history.items l.n) (length l.picks);
  chosen : (k : ℕ) → k < l.n → get_or l.image.items k [] ≡ crashed_image (image_of l.self.first.items) l.self.history.items l.picks k;
}
