use Rattle.std.proofs.Common.{◌*◌, take, false}
use Rattle.std.specs.Io.KnownBytes.{Appends}
use Rattle.stream_answers.specs.Hearing.{Goes, Moves}
use Rattle.vol_tree.specs.Calls.{bytes_at}
use Rattle.path_walk.specs.Walk.{Asked}
use Rattle.vol_commands.proofs.printing.print_bytes.Given as goal
use Rattle.vol_commands.specs.internal.Working.{IsWorking}

-- the bytes of the pieces so far are printed
abbrev pub invariant-loop-n : goal.invariant-loop-n
invariant-loop-n g l = record {
  working : IsWorking l.volume;
  asked : Asked g.D.Device.honest g.D.Device.disk g.D.Device.size g.D.Device.failures g.D.Device.goes_on l.fn.volume l.volume false;
  heard : Goes (Moves g.W.Outlet.took) l.initial.out l.out;
  printed : g.D.Device.honest l.fn.volume.device → Appends (g.W.Write.contents l.initial.out) (g.W.Write.contents l.out) (take (l.n * 16384) (bytes_at l.fn.volume.tree l.file));
}
