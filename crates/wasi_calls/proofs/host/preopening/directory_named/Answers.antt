use Rattle.std.proofs.Common.{arith}
use Rattle.std.proofs.lemmas.Grind.{common_steps}
use Rattle.wasi_bodies.proofs.bodies.AskingCalls.{works_as, still_works}
use Rattle.wasi_calls.proofs.host.preopening.directory_named.Goals as goal

pub returns-in_default-clause-reads : goal.returns-in_default-clause-reads
returns-in_default-clause-reads g c = works_as g.D.Device.honest g.D.Device.disk g.D.Device.size g.D.Device.failures g.D.Device.goes_on c.args.volume.now c.args.volume.now (still_works g.D.Device.honest g.D.Device.disk g.D.Device.size g.D.Device.failures g.D.Device.goes_on c.args.volume.now c.requires)

pub returns-in-47-clause-found : goal.returns-in-47-clause-found
returns-in-47-clause-found c = grind (arith, common_steps)
