use Rattle.deferred_calls.proofs.Granting.{grant_is_the_call}
use Rattle.deferred_calls.proofs.laws.grant_is_the_call.Goals as goal

pub returns : goal.returns
returns g c = grant_is_the_call _ g.H.Host.calls
