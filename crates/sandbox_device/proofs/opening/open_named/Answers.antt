use Rattle.sandbox_device.specs.Named.{was_not_opened, was_opened}
use Rattle.sandbox_device.proofs.Told.{told_of}
use Rattle.sandbox_device.proofs.opening.open_named.Goals as goal

pub returns : goal.returns
returns g c = told_of c.open.result (λ file. was_opened _ _) (λ e. was_not_opened _)
