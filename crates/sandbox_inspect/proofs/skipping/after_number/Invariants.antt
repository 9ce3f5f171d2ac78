use Rattle.std.proofs.Common.{◌≡◌, length}
use Rattle.wasm_valid.specs.internal.Skipping.{after_number}
use Rattle.sandbox_inspect.proofs.skipping.after_number.Given as goal

abbrev pub invariant-loop-first : goal.invariant-loop-first
invariant-loop-first l = after_number l.left ≡ after_number l.fn.bytes

abbrev pub decreases-loop-first : goal.decreases-loop-first
decreases-loop-first l = length l.left
