use Rattle.sandbox_device.specs.Beside.{was_settled, was_hindered}
use Rattle.sandbox_device.proofs.Told.{told_of}
use Rattle.sandbox_device.proofs.replacing.SuccessorBeside.settle.Goals as goal

pub returns : goal.returns
returns g c = told_of c.sync_folder.result (λ x. was_settled _ _) (λ e. was_hindered _ _)
