use Rattle.wasm_store.proofs.Constants.{FirstTo}
use Rattle.wasm_store.proofs.instantiation.first_globals.Given as goal

abbrev pub invariant-loop-entry : goal.invariant-loop-entry
invariant-loop-entry l = FirstTo l.fn.guest l.entry-index l.values.items
