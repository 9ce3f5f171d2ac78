use Rattle.sandbox_device.specs.Named.{was_overwritten}
use Rattle.sandbox_device.proofs.Told.{on_ok}
use Rattle.sandbox_device.proofs.replacing.write_contents.Goals as goal

pub returns : goal.returns
returns g c = on_ok c.flush.result (was_overwritten _ _)
