use Rattle.std.proofs.Common.{◌≡◌, List}
use Rattle.wasm_store.specs.Values.{Val, numbers}
use Rattle.wasm_store.proofs.Segments.{ElementsChecked}
use Rattle.wasm_store.proofs.instantiation.elements_fit.Given as goal

abbrev pub invariant-loop-segment : goal.invariant-loop-segment
invariant-loop-segment l = (vs : List Val) → numbers vs ≡ l.fn.globals → ElementsChecked vs l.fn.size l.fn.guest.element_segments l.segment-index
