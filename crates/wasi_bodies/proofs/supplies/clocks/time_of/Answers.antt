use Rattle.std.proofs.Common.{rules}
use Rattle.wasi_bodies.proofs.supplies.clocks.time_of.Goals as goal

pub returns-else-id-eq-REALTIME : goal.returns-else-id-eq-REALTIME
returns-else-id-eq-REALTIME c = search rules
