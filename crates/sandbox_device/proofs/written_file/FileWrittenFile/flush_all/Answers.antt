use Rattle.sandbox_device.specs.FileEvidence.{was_refused}
use Rattle.sandbox_device.specs.Written.{was_flushed}
use Rattle.sandbox_device.proofs.Told.{told_of}
use Rattle.sandbox_device.proofs.written_file.FileWrittenFile.flush_all.Goals as goal

pub returns : goal.returns
returns c = told_of c.flush.result (λ x. was_flushed _ _) (λ e. was_refused _ _)
