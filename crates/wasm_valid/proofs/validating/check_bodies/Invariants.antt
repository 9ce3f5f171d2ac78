use Rattle.wasm_valid.proofs.EachBody.{Remaining}
use Rattle.wasm_valid.proofs.validating.check_bodies.Given as goal

abbrev pub invariant-loop-i : goal.invariant-loop-i
invariant-loop-i l = Remaining l.module_context l.module_context.types.now l.functions l.bodies l.i
