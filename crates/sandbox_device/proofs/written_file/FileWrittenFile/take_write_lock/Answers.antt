use Rattle.sandbox_device.specs.FileEvidence.{was_refused}
use Rattle.sandbox_device.specs.Written.{was_locked_to_write}
use Rattle.sandbox_device.proofs.Told.{told_of}
use Rattle.sandbox_device.proofs.written_file.FileWrittenFile.take_write_lock.Goals as goal

pub returns : goal.returns
returns c = told_of c.lock_to_write.result (λ x. was_locked_to_write _) (λ e. was_refused _ _)
