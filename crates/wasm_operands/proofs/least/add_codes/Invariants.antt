use Rattle.std.proofs.Common.{◌≡◌, ◌++◌, take}
use Rattle.std.specs.Prelude.{map}
use Rattle.wasm_operands.specs.internal.Keys.{type_code}
use Rattle.wasm_operands.proofs.least.add_codes.Given as goal

abbrev pub invariant-loop-value_type : goal.invariant-loop-value_type
invariant-loop-value_type l = l.key.items ≡ l.fn.key.items ++ map type_code (take l.value_type-index l.types)
