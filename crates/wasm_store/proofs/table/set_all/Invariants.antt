use Rattle.std.proofs.Common.{◌≡◌, take, map, Some}
use Rattle.wasm_store.proofs.table.set_all.Given as goal

abbrev pub invariant-loop-i : goal.invariant-loop-i
invariant-loop-i l = take l.i l.elements ≡ map Some (take l.i l.functions)
