use Rattle.wasm_store.proofs.Starting.{NoneBefore}
use Rattle.wasm_store.proofs.instantiation.exported_function.Given as goal

abbrev pub invariant-loop-export : goal.invariant-loop-export
invariant-loop-export l = NoneBefore l.fn.name l.fn.guest l.export-index
