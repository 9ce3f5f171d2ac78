use Rattle.std.proofs.Common.{◌≡◌, ◌-◌, ◌++◌, ℕ, List, drop, false}
use Rattle.std.specs.List.{flat_map}
use Rattle.std.specs.Io.KnownBytes.{Appends}
use Rattle.path_walk.specs.Walk.{Asked}
use Rattle.stream_answers.specs.Hearing.{Goes, Moves}
use Rattle.vol_commands.specs.Listing.{line_in, listing}
use Rattle.vol_commands.proofs.printing.print_entries.Given as goal
use Rattle.vol_commands.specs.internal.Working.{IsWorking}

-- the lines so far are those up to the last entry
abbrev pub invariant-loop-serial : goal.invariant-loop-serial
invariant-loop-serial g l = record {
  working : IsWorking l.volume;
  asked : Asked g.D.Device.honest g.D.Device.disk g.D.Device.size g.D.Device.failures g.D.Device.goes_on l.initial.volume l.volume false;
  heard : Goes (Moves g.W.Outlet.took) l.initial.out l.out;
  printed : g.D.Device.honest l.initial.volume.device → (text : List ℕ) × Appends (g.W.Write.contents l.initial.out) (g.W.Write.contents l.out) text
      × (listing l.form l.initial.volume.tree l.directory ≡ text ++ flat_map (line_in l.form l.directory) (drop l.last l.initial.volume.tree));
}

abbrev pub decreases-loop-serial : goal.decreases-loop-serial
decreases-loop-serial g l = l.volume.numbers.slots - l.last
