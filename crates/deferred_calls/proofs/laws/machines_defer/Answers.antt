use Rattle.deferred_calls.proofs.Machines.{machines_defer}
use Rattle.deferred_calls.proofs.laws.machines_defer.Goals as goal

pub returns : goal.returns
returns g c = λ deferred. machines_defer deferred _ _ _
