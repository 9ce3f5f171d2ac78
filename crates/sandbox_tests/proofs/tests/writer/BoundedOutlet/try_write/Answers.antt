use Rattle.sandbox_tests.proofs.Told.{told}
use Rattle.sandbox_tests.proofs.tests.writer.BoundedOutlet.try_write.Goals as goal

pub returns-clause-told : goal.returns-clause-told
returns-clause-told c = told c.write.result
