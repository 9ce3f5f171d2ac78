use Rattle.std.proofs.Common.{false}
use Rattle.path_walk.specs.Walk.{Asked, IsEntryOf}
use Rattle.vol_commands.specs.internal.Working.{IsWorking}
use Rattle.vol_commands.proofs.WaysDown.{IsWayDown}
use Rattle.vol_commands.proofs.removing.leaf_below.Given as goal

-- the entry at hand is so far below the first
abbrev pub invariant-loop-depth : goal.invariant-loop-depth
invariant-loop-depth g l = record {
  working : IsWorking l.volume;
  asked : Asked g.D.Device.honest g.D.Device.disk g.D.Device.size g.D.Device.failures g.D.Device.goes_on l.initial.volume l.volume false;
  here : IsEntryOf g.D.Device.honest l.volume l.here;
  way : g.D.Device.honest l.initial.volume.device → IsWayDown l.initial.volume.tree l.fn.from l.here l._depth;
}
