use Rattle.std.proofs.Common.{sym, ◌∙◌}
use Rattle.wasm_syntax.specs.Reading.{many_at}
use Rattle.wasm_syntax.proofs.Exits.{handed_on, without_memory}
use Rattle.wasm_module.proofs.Steps.{begins_loop, many_goes_on, many_no_item, many_done}
use Rattle.wasm_module.proofs.cursor.Cursor.many.Goals as goal

pub returns-in_err-items : goal.returns-in_err-items
returns-in_err-items g c = handed_on _ _ c.from_residual.result _ c.from_residual.ensures.1 (λ other. absurd (other c.in_err-items.ensures))

pub returns-in_err-decode : goal.returns-in_err-decode
returns-in_err-decode g c =
    handed_on _ _ c.from_residual-in_err-decode.result _ c.from_residual-in_err-decode.ensures.1
    (λ other. many_no_item (g.T.Decode.at c.args.profile) c.loop.items.items c.args.count c.loop.counter c.loop.self _ c.loop-test.true (c.in_err-decode.ensures other) c.loop.invariant)

pub returns-in_err-push : goal.returns-in_err-push
returns-in_err-push g c = without_memory _ _ c.from_residual-in_err-push.result c.from_residual-in_err-push.ensures.1

pub loop-init : goal.loop-init
loop-init g c = begins_loop c.in_ok-items.items.items (λ n. many_at (g.T.Decode.at c.args.profile) n c.args.self.now) c.args.count c.in_ok-items.ensures

pub loop-preserved : goal.loop-preserved
loop-preserved g c =
    many_goes_on (g.T.Decode.at c.args.profile) c.loop.items.items c.push.new.self.items c.args.count c.loop.counter c.loop.self c.in_ok-decode.field-0 c.decode.new.cursor _ c.loop-test.true c.in_ok-decode.ensures c.in_ok-push.ensures.items c.loop.invariant

pub returns : goal.returns
returns g c = rw c.from_vec.ensures (sym c.loop.invariant ∙ many_done (g.T.Decode.at c.args.profile) c.loop.items.items c.args.count c.loop.counter c.loop.self c.loop-test.false)
