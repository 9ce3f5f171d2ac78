use Rattle.std.proofs.Common.{◌-◌, ◌≡◌, ◌≤◌, ◌<◌, length}
use Rattle.vol_sector.specs.Record.{image_of}
use Rattle.sandbox_device.specs.FileEvidence.{AreReadTo}
use Rattle.sandbox_device.proofs.file_device.read_sectors.Given as goal

-- what it begins with stays
abbrev pub invariant-loop-first : goal.invariant-loop-first
invariant-loop-first g l = record {
  all : length l.sectors ≡ l.count;
  within : l.first ≤ l.count;
  behind : length l.beginning ≤ l.first;
  begins : 0 < length l.beginning → image_of l.sectors 0 ≡ image_of l.beginning 0;
  piece : length l.piece ≡ 64;
  read : AreReadTo g.F.SectorFile.gave l.file l.first l.sectors;
}

abbrev pub decreases-loop-first : goal.decreases-loop-first
decreases-loop-first g l = l.count - l.first
