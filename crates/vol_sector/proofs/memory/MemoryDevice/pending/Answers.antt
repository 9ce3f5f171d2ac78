use Rattle.std.proofs.Common.{rules}
use Rattle.vol_sector.proofs.memory.MemoryDevice.pending.Goals as goal

pub loop-n-preserved : goal.loop-n-preserved
loop-n-preserved c = search rules
