use Rattle.sandbox_device.specs.FileEvidence.{was_refused, was_written}
use Rattle.sandbox_device.proofs.Told.{told_of}
use Rattle.sandbox_device.proofs.sector_file.FileSectorFile.write.Goals as goal

pub returns-clause-told : goal.returns-clause-told
returns-clause-told c = told_of c.write_all_at.result (λ x. was_written _ _ _ _) (λ e. was_refused _ _)
