use Rattle.std.proofs.Common.{◌≡◌, ◌-◌, ◌*◌, ◌++◌, drop, vec_len, vec_capacity}
use Rattle.wasm_store.specs.Bytes.{bytes_at}
use Rattle.wasi_bodies.specs.Checks.{buffers_in}
use Rattle.wasi_bodies.specs.internal.checks.Buffers.{list_of}
use Rattle.wasi_bodies.proofs.checks.buffers.read_array.Given as goal

abbrev pub invariant-loop-index : goal.invariant-loop-index
invariant-loop-index l = record {
  read : list_of l.room.items ++ buffers_in (l.count - l.index) (drop (8 * l.index) (bytes_at l.memory l.iovs (8 * l.count))) ≡ buffers_in l.count (bytes_at l.memory l.iovs (8 * l.count));
  len : vec_len l.room ≡ l.index;
  place : vec_capacity l.room ≡ vec_capacity l.initial.room;
}
