use Rattle.wasi_paths.specs.internal.paths.Climbing.{ClimbsTo}
use Rattle.wasi_paths.proofs.paths.renaming.is_within.Given as goal

abbrev pub invariant-loop-step : goal.invariant-loop-step
invariant-loop-step g l = ClimbsTo g.D.Device.honest g.D.Device.disk g.D.Device.size g.D.Device.failures g.D.Device.goes_on l.initial.volume l.volume l.top l.fn.serial l.initial.slots l.step l.at
