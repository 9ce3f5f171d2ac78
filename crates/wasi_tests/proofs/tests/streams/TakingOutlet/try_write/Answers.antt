use Rattle.wasi_tests.proofs.Told.{told}
use Rattle.wasi_tests.proofs.tests.streams.TakingOutlet.try_write.Goals as goal

pub returns-clause-told : goal.returns-clause-told
returns-clause-told c = told c.write.result
