-- What is known of the disk of a volume in a file.
use Rattle.vol_sector.specs.Disk.{Disk}
use Rattle.sandbox_device.specs.File.{kept}
use Rattle.sandbox_places.specs.declared.host_volume.HostVolume.{HostVolume}

-- what is known of the disk of a volume in a file
abbrev pub file_disk : HostVolume → Disk
file_disk d = kept d.device.sectors d.device.moments.unsynced d.device.moments.times
