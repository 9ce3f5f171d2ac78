use Rattle.std.proofs.Common.{◌≡◌, ◌*◌, ◌^◌, ◌≤◌, take}
use Rattle.wasi_bodies.specs.Checks.{total}
use Rattle.wasi_bodies.specs.internal.checks.Buffers.{list_of}
use Rattle.wasi_bodies.proofs.checks.buffers.total_len.Given as goal

abbrev pub invariant-loop-buffer : goal.invariant-loop-buffer
invariant-loop-buffer l = record {
  small : l.total ≤ l.buffer-index * 2 ^ 32;
  sum : l.total ≡ total (list_of (take l.buffer-index l.buffers));
}
