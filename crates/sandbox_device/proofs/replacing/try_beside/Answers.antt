use Rattle.sandbox_device.specs.Named.{has_no_place_beside}
use Rattle.sandbox_device.proofs.Told.{on_err}
use Rattle.sandbox_device.proofs.replacing.try_beside.Goals as goal

pub returns : goal.returns
returns g c = on_err c.remove_file.result (has_no_place_beside _)
