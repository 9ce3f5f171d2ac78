use Rattle.sandbox_device.specs.FileEvidence.{was_refused}
use Rattle.sandbox_device.proofs.Told.{on_err}
use Rattle.sandbox_device.proofs.sector_file.FileSectorFile.lengthen.Goals as goal

pub returns : goal.returns
returns c = on_err c.set_len.result (was_refused _ _)
