use Rattle.std.proofs.Common.{Bool, ℕ}
use Rattle.wasi_calls.proofs.host.Preopens.{asked_device}
use Rattle.wasi_bodies.proofs.bodies.AskingCalls.{works_as, still_works}
use Rattle.wasi_calls.proofs.host.preopening.reached_directory.Goals as goal

pub returns-in-Err-clause-reads : goal.returns-in-Err-clause-reads
returns-in-Err-clause-reads g c = asked_device Bool ℕ g.D.Device.honest g.D.Device.disk g.D.Device.size g.D.Device.failures g.D.Device.goes_on c.args.volume.now c.is_directory.new.volume c.in-Err.errno c.fault_of.result c.fault_of.ensures c.in-Err.ensures.asked

pub returns-in-Missing-clause-reads : goal.returns-in-Missing-clause-reads
returns-in-Missing-clause-reads g c = works_as g.D.Device.honest g.D.Device.disk g.D.Device.size g.D.Device.failures g.D.Device.goes_on c.args.volume.now c.args.volume.now (still_works g.D.Device.honest g.D.Device.disk g.D.Device.size g.D.Device.failures g.D.Device.goes_on c.args.volume.now c.requires.working)
