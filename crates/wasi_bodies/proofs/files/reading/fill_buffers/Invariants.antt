use Rattle.std.proofs.Common.{◌≡◌, ◌+◌, ◌-◌, ◌≤◌, length, drop}
use Rattle.vol_tree.specs.Calls.{bytes_at}
use Rattle.wasi_bodies.specs.Checks.{total, put, scattered}
use Rattle.wasi_bodies.specs.internal.paths.Walks.{StillWorks}
use Rattle.wasi_bodies.specs.internal.checks.Buffers.{list_of}
use Rattle.wasi_bodies.proofs.files.FilledBuffers.{Filling}
use Rattle.wasi_bodies.proofs.files.reading.fill_buffers.Given as goal

abbrev pub invariant-loop-index : goal.invariant-loop-index
invariant-loop-index g l = record {
  place : l.at + total (list_of (drop l.index l.buffers)) ≡ l.from + total (list_of l.buffers);
  low : l.from ≤ l.at;
  long : length l.memory ≡ length l.initial.memory;
  works : StillWorks g.D.Device.honest g.D.Device.disk g.D.Device.size g.D.Device.failures g.D.Device.goes_on l.initial.volume l.volume;
  filling : g.D.Device.honest l.initial.volume.device → total (list_of l.buffers) ≤ length (bytes_at l.initial.volume.tree l.serial) - l.from
      → Filling (bytes_at l.initial.volume.tree l.serial) l.initial.memory (put l.initial.memory (scattered (drop l.from (bytes_at l.initial.volume.tree l.serial)) (list_of l.buffers))) l.memory l.at (list_of (drop l.index l.buffers));
}
