use Rattle.std.proofs.Common.{◌≡◌, ◌-◌, ◌≤◌, length}
use Rattle.vol_tree.specs.Calls.{bytes_at}
use Rattle.wasi_bodies.specs.internal.paths.Walks.{StillWorks}
use Rattle.wasi_bodies.specs.internal.checks.Buffers.{list_of}
use Rattle.wasi_bodies.specs.internal.files.Reading.{BufferFilled}
use Rattle.wasi_bodies.proofs.files.reading.fill_buffer.Given as goal

abbrev pub invariant-loop-place : goal.invariant-loop-place
invariant-loop-place g l = record {
  low : l.start ≤ l.place;
  high : l.place ≤ l.end;
  long : length l.memory ≡ length l.initial.memory;
  works : StillWorks g.D.Device.honest g.D.Device.disk g.D.Device.size g.D.Device.failures g.D.Device.goes_on l.initial.volume l.volume;
  filled : g.D.Device.honest l.initial.volume.device → l.end - l.start ≤ length (bytes_at l.initial.volume.tree l.serial) - l.from
      → BufferFilled (bytes_at l.initial.volume.tree l.serial) l.from l.start l.place (list_of l.later) l.initial.memory l.memory;
}

abbrev pub decreases-loop-place : goal.decreases-loop-place
decreases-loop-place g l = l.end - l.place
