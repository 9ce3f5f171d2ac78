use Rattle.sandbox_device.specs.FileEvidence.{was_refused}
use Rattle.sandbox_device.proofs.Told.{on_err}
use Rattle.sandbox_device.proofs.replacing.told_of.Goals as goal

pub returns : goal.returns
returns c = on_err c.metadata.result (was_refused _ _)
