use Rattle.wasi_calls.specs.internal.host.Preopening.{FoundSoFar}
use Rattle.wasi_calls.proofs.host.preopening.find_all.Given as goal

abbrev pub invariant-loop-i : goal.invariant-loop-i
invariant-loop-i g l = FoundSoFar g.D.Device.honest g.D.Device.disk g.D.Device.size g.D.Device.failures g.D.Device.goes_on l.fn.volume l.volume l.preopens l.serials l.i
