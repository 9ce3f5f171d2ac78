use Rattle.sandbox_device.specs.FileEvidence.{was_refused}
use Rattle.sandbox_device.specs.Written.{was_cut}
use Rattle.sandbox_device.proofs.Told.{told_of}
use Rattle.sandbox_device.proofs.written_file.FileWrittenFile.cut_to_nothing.Goals as goal

pub returns : goal.returns
returns c = told_of c.cut.result (λ x. was_cut _ _) (λ e. was_refused _ _)
