use Rattle.std.proofs.Common.{inr}
use Rattle.sandbox_device.specs.Named.{has_lost}
use Rattle.sandbox_device.proofs.identity.refuse_where_replaced.Goals as goal

pub returns-in-Some : goal.returns-in-Some
returns-in-Some g c = inr (has_lost _ _)
