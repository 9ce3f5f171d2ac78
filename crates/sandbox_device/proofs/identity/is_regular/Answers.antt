use Rattle.sandbox_device.specs.FileEvidence.{was_refused}
use Rattle.sandbox_device.proofs.Told.{on_err}
use Rattle.sandbox_device.proofs.identity.is_regular.Goals as goal

pub returns-in_err-metadata : goal.returns-in_err-metadata
returns-in_err-metadata c = on_err c.from_residual.result (was_refused _ _)
