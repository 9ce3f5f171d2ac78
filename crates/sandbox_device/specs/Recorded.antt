-- The disk of a `RecordedDevice`, by its writes and syncs so far: a crash leaves each sector, apart from the others, at
-- its value of the last sync or at any value that was written since (`docs/VOLUME.md`, "The device"). `written_by`
-- takes these operations from what only proofs see, so it holds where the device keeps no record for its caller, too.
use Rattle.std.specs.Prelude.{List, Bool, length}
use Rattle.vol_sector.specs.Disk.{Disk}
use Rattle.vol_sector.specs.Counting.{counting}
use Rattle.vol_sector.specs.Record.{LeftBy, recorded, image_of}
use Rattle.vol_sector.specs.declared.record.Operation.{Operation}
use Rattle.sandbox_device.specs.Ram.{Sectors}

-- Its sectors now and those that it began with, the writes and syncs that were done, in order, and of each operation that was
-- tried, the newest first, whether it is one of these.
abbrev pub written_by : Sectors → Sectors → List Operation → List Bool → Disk
written_by now first done outcomes = record {
  seen = image_of now;
  may_leave = LeftBy (image_of first) done;
  operation_count = length outcomes;
  left_since = (counting outcomes (recorded (image_of first) done)).left_since;
}
