use Rattle.sandbox_device.specs.FileEvidence.{was_refused}
use Rattle.sandbox_device.specs.Written.{was_put}
use Rattle.sandbox_device.proofs.Told.{told_of}
use Rattle.sandbox_device.proofs.written_file.FileWrittenFile.put.Goals as goal

pub returns-clause-told : goal.returns-clause-told
returns-clause-told c = told_of c.write.result (λ n. was_put _ _ _) (λ e. was_refused _ _)
