use Rattle.sandbox_device.specs.Named.{has_no_place_beside}
use Rattle.sandbox_device.proofs.Told.{on_err}
use Rattle.sandbox_device.proofs.replacing.Replacement.spare.Goals as goal

pub returns-in_err-folder : goal.returns-in_err-folder
returns-in_err-folder g c = on_err c.from_residual.result (has_no_place_beside _)

pub returns-in-Err : goal.returns-in-Err
returns-in-Err g c = has_no_place_beside _
