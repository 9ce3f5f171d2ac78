use Rattle.std.proofs.Common.{◌≡◌, false, length}
use Rattle.vol_log.specs.Log.{view, device_of, has_failed}
use Rattle.vol_log.specs.Reading.{OnlyReads}
use Rattle.vol_dirs.specs.Names.{slots_of, Shows}
use Rattle.vol_tree.specs.internal.Reads.{AreBelow, AreWithin, HaveRead}
use Rattle.vol_tree.proofs.reading.read_entries.Given as goal

abbrev pub invariant-loop-slot : goal.invariant-loop-slot
invariant-loop-slot g l = record {
  working : has_failed l.log ≡ false;
  reads : OnlyReads l.fn.log l.log;
  count : length l.found.parents.items ≡ l.slot;
  within : AreWithin l.numbers l.found;
  slots : slots_of l.dirs ≡ slots_of l.fn.dirs;
  below : AreBelow l.dirs l.slot;
  shows : g.D.Device.honest (device_of l.fn.log) → Shows l.numbers.version (view l.fn.log) l.slot l.dirs;
  read : g.D.Device.honest (device_of l.fn.log) → HaveRead (view l.fn.log) l.numbers l.slot l.found;
}
