use Rattle.std.proofs.Common.{◌≡◌, List}
use Rattle.wasm_store.specs.Values.{Val, numbers}
use Rattle.wasm_store.proofs.Segments.{DataChecked}
use Rattle.wasm_store.proofs.instantiation.data_fits.Given as goal

abbrev pub invariant-loop-segment : goal.invariant-loop-segment
invariant-loop-segment l = (vs : List Val) → numbers vs ≡ l.fn.globals → DataChecked vs l.fn.size l.fn.guest.data_segments l.segment-index
