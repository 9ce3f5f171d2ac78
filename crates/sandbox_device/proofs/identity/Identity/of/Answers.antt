use Rattle.sandbox_device.specs.FileEvidence.{was_refused}
use Rattle.sandbox_device.specs.Named.{has_identity}
use Rattle.sandbox_device.proofs.Told.{told_of}
use Rattle.sandbox_device.proofs.identity.Identity.of.Goals as goal

pub returns : goal.returns
returns c = has_identity _ _

pub returns-in_err-metadata : goal.returns-in_err-metadata
returns-in_err-metadata c = told_of c.from_residual.result (λ it. has_identity _ it) (λ e. was_refused _ _)
