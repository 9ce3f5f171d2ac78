use Rattle.sandbox_device.specs.FileEvidence.{was_refused}
use Rattle.sandbox_device.proofs.written_file.lock_to_write.Goals as goal

pub returns-in-Err-WouldBlock : goal.returns-in-Err-WouldBlock
returns-in-Err-WouldBlock c = was_refused _ _
