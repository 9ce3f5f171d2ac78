use Rattle.deferred_calls.proofs.Granting.{asks_in_the_whole}
use Rattle.deferred_calls.proofs.laws.asks_in_the_whole.Goals as goal

pub returns : goal.returns
returns c = asks_in_the_whole
