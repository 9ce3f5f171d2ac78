use Rattle.std.proofs.Common.{◌≡◌, List, None, replicate}
use Rattle.wasm_store.specs.Values.{Val, numbers}
use Rattle.wasm_store.proofs.Segments.{TableFilled}
use Rattle.wasm_store.proofs.instantiation.first_table.Given as goal

abbrev pub invariant-loop-segment : goal.invariant-loop-segment
invariant-loop-segment l = (vs : List Val) → numbers vs ≡ l.fn.globals → TableFilled vs (replicate l.fn.size None) l.fn.guest.element_segments l.segment-index l.table
