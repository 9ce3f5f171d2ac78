-- The bytes that a file gets all at once: those of a device's sectors, or bytes as they are.
use Rattle.std.specs.Prelude.{ℕ, List}
use Rattle.sandbox_device.specs.declared.new_bytes.Contents.{Contents}
use Rattle.sandbox_device.specs.declared.new_bytes.Contents.TheVariants.{Sectors, Bytes}
use Rattle.sandbox_device.specs.Ram.{joined_sectors}

abbrev pub bytes_of : Contents → List ℕ
bytes_of (Sectors device) = joined_sectors device.now.sectors
bytes_of (Bytes bytes) = bytes.now
