use Rattle.sandbox_device.specs.FileEvidence.{was_read, was_refused}
use Rattle.sandbox_device.proofs.Told.{on_err, on_ok}
use Rattle.sandbox_device.proofs.sector_file.FileSectorFile.read_into.Goals as goal

pub returns-clause-gave : goal.returns-clause-gave
returns-clause-gave c = on_ok c.read_exact_at.result (λ n lt. was_read _ _ _)

pub returns-clause-refused : goal.returns-clause-refused
returns-clause-refused c = on_err c.read_exact_at.result (was_refused _ _)
