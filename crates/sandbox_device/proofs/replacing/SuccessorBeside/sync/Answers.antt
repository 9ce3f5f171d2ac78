use Rattle.sandbox_device.specs.Beside.{was_made_lasting, was_hindered}
use Rattle.sandbox_device.proofs.Told.{told_of}
use Rattle.sandbox_device.proofs.replacing.SuccessorBeside.sync.Goals as goal

pub returns : goal.returns
returns g c = told_of c.sync_all.result (λ x. was_made_lasting _ _) (λ e. was_hindered _ _)
