use Rattle.sandbox_device.specs.Named.{has_no_place_beside}
use Rattle.sandbox_device.proofs.Told.{on_err}
use Rattle.sandbox_device.proofs.replacing.spare_beside.Goals as goal

pub returns-in_err-name : goal.returns-in_err-name
returns-in_err-name g c = on_err c.from_residual.result (has_no_place_beside _)

pub returns : goal.returns
returns g c = on_err c.loop-number.spare (has_no_place_beside _)
