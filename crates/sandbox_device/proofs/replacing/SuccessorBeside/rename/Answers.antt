use Rattle.sandbox_device.specs.Beside.{was_renamed, was_hindered}
use Rattle.sandbox_device.proofs.Told.{told_of}
use Rattle.sandbox_device.proofs.replacing.SuccessorBeside.rename.Goals as goal

pub returns : goal.returns
returns g c = told_of c.rename.result (λ x. was_renamed _ _) (λ e. was_hindered _ _)
