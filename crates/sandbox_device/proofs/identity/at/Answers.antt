use Rattle.sandbox_device.specs.Named.{names_identity}
use Rattle.sandbox_device.proofs.identity.at.Goals as goal

pub returns-in-Ok : goal.returns-in-Ok
returns-in-Ok g c = names_identity _ _

pub returns-in-Err : goal.returns-in-Err
returns-in-Err g c = names_identity _ _
