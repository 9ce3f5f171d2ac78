use Rattle.std.proofs.Common.{◌≡◌, ◌*◌, List, replicate}
use Rattle.wasm_store.specs.Values.{Val, numbers}
use Rattle.wasm_store.proofs.Segments.{MemoryFilled}
use Rattle.wasm_store.proofs.instantiation.first_memory.Given as goal

abbrev pub invariant-loop-segment : goal.invariant-loop-segment
invariant-loop-segment l = (vs : List Val) → numbers vs ≡ l.fn.globals → MemoryFilled vs (replicate (l.fn.pages * 65536) 0) l.fn.guest.data_segments l.segment-index l.memory
