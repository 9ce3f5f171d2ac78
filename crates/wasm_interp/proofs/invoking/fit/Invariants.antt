use Rattle.std.proofs.Common.{◌≡◌, ℕ, ◌<◌, Some}
use Rattle.std.specs.Prelude.{slice_get, ◌^◌}
use Rattle.wasm_syntax.specs.declared.instruction.ValueType.{ValueType}
use Rattle.wasm_steps.specs.Operators.{width}
use Rattle.wasm_interp.proofs.invoking.fit.Given as goal

-- those so far are of their types
abbrev pub invariant-loop-i : goal.invariant-loop-i
invariant-loop-i l = (k : ℕ) (t : ValueType) (n : ℕ) → k < l.i → slice_get l.types k ≡ Some t → slice_get l.arguments k ≡ Some n → n < 2 ^ width t
