use Rattle.std.proofs.Common.{◌≡◌, take}
use Rattle.std.specs.Prelude.{vec_capacity}
use Rattle.wasm_interp.proofs.invoking.put_arguments.Given as goal

abbrev pub invariant-loop-i : goal.invariant-loop-i
invariant-loop-i l = record {
  items : l.values.items ≡ take l.i l.arguments;
  room : vec_capacity l.values ≡ vec_capacity l.initial.values;
}
