use Rattle.sandbox_device.specs.FileEvidence.{was_refused, was_synced}
use Rattle.sandbox_device.proofs.Told.{told_of}
use Rattle.sandbox_device.proofs.sector_file.FileSectorFile.sync.Goals as goal

pub returns-clause-told : goal.returns-clause-told
returns-clause-told c = told_of c.sync_data.result (λ x. was_synced _ _) (λ e. was_refused _ _)
