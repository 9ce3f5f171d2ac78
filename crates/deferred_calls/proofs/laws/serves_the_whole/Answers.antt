use Rattle.deferred_calls.proofs.Granting.{serves_the_whole}
use Rattle.deferred_calls.proofs.laws.serves_the_whole.Goals as goal

pub returns : goal.returns
returns c = serves_the_whole
