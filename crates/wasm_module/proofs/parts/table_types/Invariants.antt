use Rattle.std.proofs.Common.{◌≡◌, ◌-◌}
use Rattle.wasm_syntax.specs.internal.TypesReading.{table_at}
use Rattle.wasm_syntax.specs.Reading.{many_at}
use Rattle.wasm_module.proofs.Loop.{with_front}
use Rattle.wasm_module.proofs.parts.table_types.Given as goal

abbrev pub invariant-loop : goal.invariant-loop
invariant-loop l = with_front l.tables.items (many_at table_at (l.count - l.counter) l.cursor) ≡ many_at table_at l.count l.fn.cursor
