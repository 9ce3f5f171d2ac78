use Rattle.std.proofs.Common.{◌≡◌}
use Rattle.wasm_valid.specs.internal.Skipping.{after_numbers}
use Rattle.sandbox_inspect.proofs.skipping.after_numbers.Given as goal

abbrev pub invariant-loop : goal.invariant-loop
invariant-loop l = l.left ≡ after_numbers l.counter l.bytes
