use Rattle.std.proofs.Common.{◌≡◌, ◌+◌, ◌++◌, replicate}
use Rattle.std.specs.Prelude.{vec_len, vec_capacity}
use Rattle.wasm_operands.proofs.operands.push_zeros.Given as goal

abbrev pub invariant-loop : goal.invariant-loop
invariant-loop l = record {
  items : l.values.items ≡ l.initial.values.items ++ replicate l.counter 0;
  len : vec_len l.values ≡ vec_len l.initial.values + l.counter;
  room : vec_capacity l.values ≡ vec_capacity l.initial.values;
}
