-- `opened`: what an open volume shows of its parts (`docs/VOLUME.md`, "The tree"). It is the model of `Volume`, so
-- public contracts know a device, numbers, a tree and whether the volume has failed, and nothing of the names and free
-- sectors in memory.
use Rattle.vol_sector.specs.declared.device.Device.{Ghosts}
use Rattle.vol_log.specs.Log.{view, device_of, has_failed}
use Rattle.vol_tree.specs.declared.parts.Parts.{Parts}
use Rattle.vol_tree.specs.Clauses.{tree_in}
use Rattle.vol_tree.specs.Opened.{Opened}

abbrev pub opened : {D : Type 0} {g : Ghosts D} → Parts D g → Opened D
opened p = record { device = device_of p.log; numbers = p.numbers; tree = tree_in (view p.log) p.numbers; failed = has_failed p.log }
