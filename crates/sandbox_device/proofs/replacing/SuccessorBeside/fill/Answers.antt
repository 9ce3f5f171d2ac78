use Rattle.sandbox_device.specs.Beside.{was_filled, was_hindered}
use Rattle.sandbox_device.proofs.Told.{told_of}
use Rattle.sandbox_device.proofs.replacing.SuccessorBeside.fill.Goals as goal

pub returns : goal.returns
returns g c = told_of c.write_contents.result (λ x. was_filled _ _ _) (λ e. was_hindered _ _)
