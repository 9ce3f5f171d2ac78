use Rattle.std.proofs.Common.{◌≡◌, ◌-◌, ◌≤◌, ◌++◌, false, take, drop}
use Rattle.vol_log.specs.Log.{view, device_of, has_failed}
use Rattle.vol_alloc.specs.Alloc.{taken_of}
use Rattle.vol_body.specs.Body.{NamesTaken, bytes_of}
use Rattle.vol_log.specs.Reading.{OnlyReads}
use Rattle.vol_body.specs.internal.Holding.{IsHeld}
use Rattle.vol_body.proofs.reading.read_some.Given as goal

abbrev pub invariant-loop-done : goal.invariant-loop-done
invariant-loop-done g l = record {
  within : l.done ≤ l.count;
  working : has_failed l.log ≡ false;
  reads : OnlyReads l.fn.log l.log;
  held : g.D.Device.honest (device_of l.fn.log) → NamesTaken (taken_of l.sectors) (view l.fn.log) l.entry → IsHeld (view l.fn.log) l.entry l.held l.last;
  filled : g.D.Device.honest (device_of l.fn.log) → NamesTaken (taken_of l.sectors) (view l.fn.log) l.entry
      → l.buffer ≡ take l.done (drop l.offset (bytes_of (view l.fn.log) l.entry)) ++ drop l.done l.fn.buffer;
}

abbrev pub decreases-loop-done : goal.decreases-loop-done
decreases-loop-done g l = l.count - l.done
