use Rattle.std.proofs.Common.{rules}
use Rattle.vol_sector.proofs.fault.VolumeFaultFromDeviceFault.from.Goals as goal

pub returns : goal.returns
returns c = search rules
