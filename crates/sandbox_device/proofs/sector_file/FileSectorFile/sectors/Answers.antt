use Rattle.sandbox_device.specs.FileEvidence.{was_measured, was_refused}
use Rattle.sandbox_device.proofs.Told.{told_of}
use Rattle.sandbox_device.proofs.sector_file.FileSectorFile.sectors.Goals as goal

pub returns-in_err-metadata : goal.returns-in_err-metadata
returns-in_err-metadata c = told_of c.from_residual.result (λ n. was_measured _ _) (λ e. was_refused _ _)

pub returns : goal.returns
returns c = was_measured _ _
