use Rattle.std.proofs.Common.{◌≡◌, ◌≤◌, ℕ, List, false}
use Rattle.vol_log.specs.Log.{view, device_of, has_failed}
use Rattle.vol_dirs.specs.Names.{slots_of, Names, Shows}
use Rattle.vol_log.specs.Reading.{OnlyReads}
use Rattle.vol_dirs.proofs.dirs.Dirs.open.Given as goal

abbrev pub invariant-loop-slot : goal.invariant-loop-slot
invariant-loop-slot g l = record {
  kept : slots_of l.dirs ≡ l.slots;
  working : has_failed l.log ≡ false;
  reads : OnlyReads l.fn.log l.log;
  below : (p : ℕ) (n : List ℕ) (s : ℕ) → Names l.dirs p n s → s ≤ l.slot;
  shown : g.D.Device.honest (device_of l.fn.log) → Shows l.version (view l.fn.log) l.slot l.dirs;
}
