use Rattle.std.proofs.Common.{◌≡◌, ◌+◌, ◌-◌, ◌*◌, ◌++◌, ℕ, List, drop, ap, ◌∙◌, arith}
use Rattle.vol_body.specs.declared.source.MemorySpan.{MemorySpan}
use Rattle.wasm_store.specs.Bytes.{bytes_at}
use Rattle.wasi_bodies.specs.Checks.{buffers_in}
use Rattle.wasi_bodies.specs.internal.checks.Buffers.{list_of}
use Rattle.wasi_bodies.proofs.checks.BufferArrays.{entry_read, read_more}
use Rattle.wasi_bodies.proofs.checks.buffers.read_array.Goals as goal

pub loop-index-preserved : goal.loop-index-preserved
loop-index-preserved c =
    let i = c.loop-index.index in
    let m = c.args.memory.now in
    let array : List ℕ = bytes_at m c.args.iovs (8 * c.args.count) in
    let was = c.loop-index.invariant in
    let pushed = c.push_reserved.ensures in
    let pointer = c.in-Some.pointer in
    let len = c.in-Some-load_u32.len in
    record {
      read = ap (λ (bs : List MemorySpan). list_of bs ++ buffers_in (c.args.count - (i + 1)) (drop (8 * (i + 1)) array)) pushed.items
          ∙ (read_more c.loop-index.room.items array c.args.count i (record { pointer = pointer; len = len }) (omega arith)
          (entry_read m c.args.iovs c.args.count i pointer len (omega arith) c.requires.inside c.in-Some.ensures.inside.1 c.in-Some-load_u32.ensures.inside.1) ∙ was.read);
      len = omega (arith, pushed.len, was.len);
      place = pushed.capacity ∙ was.place;
    }
