use Rattle.std.proofs.Common.{sym, ◌∙◌}
use Rattle.wasm_syntax.specs.Reading.{many_at}
use Rattle.wasm_syntax.specs.internal.TypesReading.{table_at}
use Rattle.wasm_syntax.proofs.Exits.{handed_on, without_memory}
use Rattle.wasm_module.proofs.Steps.{begins_loop, many_goes_on, many_no_item, many_done}
use Rattle.wasm_module.proofs.parts.table_types.Goals as goal

pub returns-in_err-tables : goal.returns-in_err-tables
returns-in_err-tables c = handed_on _ _ c.from_residual.result _ c.from_residual.ensures.1 (λ other. absurd (other c.in_err-tables.ensures))

pub returns-in_err-table_type : goal.returns-in_err-table_type
returns-in_err-table_type c =
    handed_on _ _ c.from_residual-in_err-table_type.result _ c.from_residual-in_err-table_type.ensures.1
    (λ other. many_no_item table_at c.loop.tables.items c.args.count c.loop.counter c.loop.cursor _ c.loop-test.true (c.in_err-table_type.ensures other) c.loop.invariant)

pub returns-in_err-push : goal.returns-in_err-push
returns-in_err-push c = without_memory _ _ c.from_residual-in_err-push.result c.from_residual-in_err-push.ensures.1

pub loop-init : goal.loop-init
loop-init c = begins_loop c.in_ok-tables.tables.items (λ n. many_at table_at n c.args.cursor.now) c.args.count c.in_ok-tables.ensures

pub loop-preserved : goal.loop-preserved
loop-preserved c =
    many_goes_on table_at c.loop.tables.items c.push.new.self.items c.args.count c.loop.counter c.loop.cursor c.in_ok-table_type.field-0 c.table_type.new.cursor _ c.loop-test.true c.in_ok-table_type.ensures c.in_ok-push.ensures.items c.loop.invariant

pub returns : goal.returns
returns c = sym c.loop.invariant ∙ many_done table_at c.loop.tables.items c.args.count c.loop.counter c.loop.cursor c.loop-test.false
