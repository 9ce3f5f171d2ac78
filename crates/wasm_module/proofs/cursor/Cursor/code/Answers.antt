use Rattle.std.proofs.Common.{◌∷◌, []}
use Rattle.wasm_syntax.specs.declared.open_blocks.OpenBlock.TheVariants.{Plain}
use Rattle.wasm_syntax.specs.internal.CodeReading.{code_at, code_from}
use Rattle.wasm_syntax.proofs.Exits.{handed_on, without_memory}
use Rattle.wasm_module.proofs.Steps.{begins_loop, code_no_more, code_goes_on, code_closes, code_breaks_off}
use Rattle.wasm_module.proofs.cursor.Cursor.code.Goals as goal

pub returns-in_err-blocks : goal.returns-in_err-blocks
returns-in_err-blocks c = without_memory _ _ c.from_residual.result c.from_residual.ensures.1

pub returns-in_err-code : goal.returns-in_err-code
returns-in_err-code c = without_memory _ _ c.from_residual-in_err-code.result c.from_residual-in_err-code.ensures.1

pub returns-in_err-one_more : goal.returns-in_err-one_more
unfolding code_at
returns-in_err-one_more c =
    handed_on _ _ c.from_residual-in_err-one_more.result _ c.from_residual-in_err-one_more.ensures.1
    (λ other. code_no_more c.args.profile c.loop.code.items c.len-end.result c.loop.counter c.loop.blocks c.loop.self _ c.loop-test.true (c.in_err-one_more.ensures other) (rw (← c.len-end.ensures) c.loop.invariant))

pub loop-init : goal.loop-init
loop-init c = rw (c.in_ok-blocks.ensures) (begins_loop c.in_ok-code.code.items (λ n. code_from c.args.profile n (Plain ∷ []) c.args.self.now) c.len-end.result c.in_ok-code.ensures.items)

pub loop-preserved : goal.loop-preserved
loop-preserved c =
    code_goes_on c.args.profile c.loop.code.items c.one_more.new.code.items c.len-end.result c.loop.counter c.loop.blocks c.one_more.new.blocks c.loop.self c.one_more.new.self _ c.loop-test.true
    c.in_ok-one_more.ensures c.if-is_empty.ensures c.loop.invariant

pub returns-then-is_empty : goal.returns-then-is_empty
unfolding code_at
returns-then-is_empty c =
    rw c.from_vec.ensures
    (rw c.shrink_to_fit.ensures.items
    (code_closes c.args.profile c.loop.code.items c.one_more.new.code.items c.len-end.result c.loop.counter c.loop.blocks c.one_more.new.blocks c.loop.self c.one_more.new.self _ c.loop-test.true
    c.in_ok-one_more.ensures c.if-is_empty.ensures (rw (← c.len-end.ensures) c.loop.invariant)))

pub returns : goal.returns
unfolding code_at
returns c = λ other. code_breaks_off c.args.profile c.loop.code.items c.len-end.result c.loop.counter c.loop.blocks c.loop.self _ c.loop-test.false (rw (← c.len-end.ensures) c.loop.invariant)
