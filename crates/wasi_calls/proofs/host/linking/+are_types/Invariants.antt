use Rattle.std.proofs.Common.{length}
use Rattle.wasi_calls.proofs.host.linking.+are_types.Given as goal

abbrev pub decreases-are_types : goal.decreases-are_types
decreases-are_types l = length l.letters.now
