use Rattle.std.proofs.Common.{◌≡◌, ◌+◌, take}
use Rattle.wasm_syntax.specs.Module.{local_count}
use Rattle.wasm_module.proofs.limits.few.Given as goal

abbrev pub invariant-loop-entry : goal.invariant-loop-entry
invariant-loop-entry l = l.count ≡ l.params + local_count (take l.entry-index l.locals)
