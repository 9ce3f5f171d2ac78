use Rattle.std.proofs.Common.{◌≡◌}
use Rattle.std.specs.Prelude.{drop}
use Rattle.wasm_valid.specs.internal.Skipping.{after_instructions}
use Rattle.wasm_valid.proofs.places.after_instructions.Given as goal

abbrev pub invariant-loop-instruction : goal.invariant-loop-instruction
invariant-loop-instruction l = after_instructions (drop l.instruction-index l.instructions) l.left ≡ after_instructions l.instructions l.bytes
