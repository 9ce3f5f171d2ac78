use Rattle.std.proofs.Common.{take}
use Rattle.std.specs.Io.KnownBytes.{Appends}
use Rattle.sandbox_device.specs.Ram.{joined_sectors}
use Rattle.sandbox_device.proofs.ram_device.RamDevice.write_to.Given as goal

-- the first of them are written
abbrev pub invariant-loop-n : goal.invariant-loop-n
invariant-loop-n g l = Appends (g.W.Write.contents l.fn.out) (g.W.Write.contents l.out) (joined_sectors (take l.n l.self.sectors))
