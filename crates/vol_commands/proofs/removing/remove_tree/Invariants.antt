use Rattle.std.proofs.Common.{false}
use Rattle.vol_sector.specs.Disk.{Leaves}
use Rattle.vol_tree.specs.Opened.{Keeps, GoesOn}
use Rattle.path_walk.specs.Walk.{IsEntryOf}
use Rattle.vol_commands.specs.Changes.{IsThinned}
use Rattle.vol_commands.specs.Tasks.{ReflectsAny}
use Rattle.vol_commands.specs.internal.Working.{IsWorking}
use Rattle.vol_commands.proofs.Thinned.{IsAmid}
use Rattle.vol_commands.proofs.removing.remove_tree.Given as goal

-- so many entries are gone, and the top is there still
abbrev pub invariant-loop-removed : goal.invariant-loop-removed
invariant-loop-removed g l = record {
  working : IsWorking l.volume;
  kept : Keeps g.D.Device.honest g.D.Device.size g.D.Device.failures l.initial.volume l.volume false;
  goes : GoesOn g.D.Device.goes_on l.initial.volume l.volume;
  here : IsEntryOf g.D.Device.honest l.volume l.here;
  amid : g.D.Device.honest l.initial.volume.device → IsAmid l.initial.volume.tree l.top l.volume.tree l.here l._removed;
  crash : g.D.Device.honest l.initial.volume.device → Leaves (g.D.Device.disk l.initial.volume.device) (g.D.Device.disk l.volume.device)
      (ReflectsAny (g.D.Device.disk l.initial.volume.device) l.initial.volume.numbers (IsThinned l.initial.volume.tree l.top));
}
