use Rattle.std.proofs.Common.{rules}
use Rattle.vol_sector.proofs.memory.MemoryDeviceDevice.sectors.Goals as goal

pub returns : goal.returns
returns c = search rules
