use Rattle.std.proofs.Common.{◌<◌, refl, arith}
use Rattle.wasm_syntax.proofs.Exits.{handed_on}
use Rattle.wasm_syntax.proofs.Numbers.{ends_here, ends_wrong, goes_on, goes_wrong, too_long}
use Rattle.wasm_syntax.proofs.Powers.{seven, below_64}
use Rattle.wasm_syntax.proofs.number.+number.Goals as goal

pub overflow_mul-result : goal.overflow_mul-result
overflow_mul-result t c =
    let wide : 7 < c.args.bits = omega arith in
    omega (arith, seven c.args.bits wide, below_64 c.args.bits c.requires.fits, c.in_ok-high.ensures.within)

pub overflow_add-result : goal.overflow_add-result
overflow_add-result t c =
    let wide : 7 < c.args.bits = omega arith in
    omega (arith, seven c.args.bits wide, below_64 c.args.bits c.requires.fits, c.in_ok-high.ensures.within, c.type_inv.bytes 0)

pub returns-in_err-value-clause-value : goal.returns-in_err-value-clause-value
returns-in_err-value-clause-value t c =
    handed_on _ _ c.from_residual.result _ c.from_residual.ensures.1
    (λ other. ends_wrong c.args.sign c.args.bits c.in-Some.first.now c.args.bytes.now c.in-Some.rest.now c.in-Some.ensures.cases.0 c.if-first-lt128.true (c.in_err-value.ensures.value other))

pub returns-then-first-lt128-clause-value : goal.returns-then-first-lt128-clause-value
returns-then-first-lt128-clause-value t c = ends_here c.args.sign c.args.bits c.in-Some.first.now c.in_ok-value.value c.args.bytes.now c.in-Some.rest.now c.in-Some.ensures.cases.0 c.if-first-lt128.true c.in_ok-value.ensures.value

pub returns-then-first-lt128-clause-within : goal.returns-then-first-lt128-clause-within
returns-then-first-lt128-clause-within t c = c.in_ok-value.ensures.within

pub returns-then-bits-le7-clause-value : goal.returns-then-bits-le7-clause-value
returns-then-bits-le7-clause-value t c = λ other. too_long c.args.sign c.args.bits c.in-Some.first.now c.args.bytes.now c.in-Some.rest.now c.in-Some.ensures.cases.0 c.if-first-lt128.false c.if-bits-le7.true

pub returns-in_err-high-clause-value : goal.returns-in_err-high-clause-value
returns-in_err-high-clause-value t c =
    handed_on _ _ c.from_residual-in_err-high.result _ c.from_residual-in_err-high.ensures.1
    (λ other. goes_wrong c.args.sign c.args.bits c.in-Some.first.now c.args.bytes.now c.in-Some.rest.now c.in-Some.ensures.cases.0 c.if-first-lt128.false c.if-bits-le7.false (c.in_err-high.ensures.value other))

pub returns-clause-value : goal.returns-clause-value
returns-clause-value t c =
    goes_on c.args.sign c.args.bits c.in-Some.first.now c.from.result c.in_ok-high.high _ c.args.bytes.now c.in-Some.rest.now c.in_ok-high.rest.now c.in-Some.ensures.cases.0 c.if-first-lt128.false c.if-bits-le7.false c.from.ensures refl c.in_ok-high.ensures.value

pub returns-clause-within : goal.returns-clause-within
returns-clause-within t c =
    let wide : 7 < c.args.bits = omega arith in
    omega (arith, seven c.args.bits wide, c.in_ok-high.ensures.within, c.type_inv.bytes 0)
