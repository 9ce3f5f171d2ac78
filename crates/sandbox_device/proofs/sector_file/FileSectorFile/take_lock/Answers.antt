use Rattle.sandbox_device.specs.FileEvidence.{was_locked, was_refused}
use Rattle.sandbox_device.proofs.Told.{told_of}
use Rattle.sandbox_device.proofs.sector_file.FileSectorFile.take_lock.Goals as goal

pub returns-in_err-try_lock : goal.returns-in_err-try_lock
returns-in_err-try_lock c = told_of c.from_residual.result (λ x. was_locked _) (λ e. was_refused _ _)

pub returns : goal.returns
returns c = was_locked _
