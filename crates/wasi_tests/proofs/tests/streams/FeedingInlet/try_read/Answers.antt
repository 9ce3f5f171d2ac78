use Rattle.wasi_tests.proofs.Told.{told}
use Rattle.wasi_tests.proofs.tests.streams.FeedingInlet.try_read.Goals as goal

pub returns-clause-told : goal.returns-clause-told
returns-clause-told c = told c.read.result
