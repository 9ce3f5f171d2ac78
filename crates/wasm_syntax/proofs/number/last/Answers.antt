use Rattle.std.proofs.Common.{◌<◌, arith}
use Rattle.wasm_syntax.proofs.Numbers.{unsigned_within, unsigned_refuses, low_within, low_takes, high_within, high_takes, high_refuses}
use Rattle.wasm_syntax.proofs.number.last.Goals as goal

pub returns-in-Unsigned-clause-within : goal.returns-in-Unsigned-clause-within
returns-in-Unsigned-clause-within c = unsigned_within c.args.bits c.from-value.result c.requires.some c.requires.fits c.if-value-half.true

pub returns-in_default-clause-value : goal.returns-in_default-clause-value
returns-in_default-clause-value c = λ other. unsigned_refuses c.args.sign c.args.bits c.args.byte c.from-value.result c.in-Unsigned.is c.requires.some c.requires.fits c.from-value.ensures c.if-value-half.false

pub returns-in-Signed-clause-value : goal.returns-in-Signed-clause-value
returns-in-Signed-clause-value c = low_takes c.args.sign c.args.bits c.args.byte c.from-value.result c.in-Signed.is c.requires.some c.requires.fits c.from-value.ensures c.if-value-lt64.true c.if-value-half-2.true

pub returns-in-Signed-clause-within : goal.returns-in-Signed-clause-within
returns-in-Signed-clause-within c = low_within c.args.bits c.from-value.result c.requires.some c.requires.fits c.if-value-half-2.true

pub returns-in-Signed-2-clause-value : goal.returns-in-Signed-2-clause-value
returns-in-Signed-2-clause-value c =
    let below : c.from-value.result < 128 = omega arith in
    high_takes c.args.sign c.args.bits c.args.byte c.from-value.result c.in-Signed-2.is c.requires.some c.requires.fits c.from-value.ensures c.if-value-ge64.true below c.if-value-half-3.true

pub returns-in-Signed-2-clause-within : goal.returns-in-Signed-2-clause-within
returns-in-Signed-2-clause-within c =
    let below : c.from-value.result < 128 = omega arith in
    high_within c.args.bits c.from-value.result c.requires.some c.requires.fits below c.if-value-half-3.true

pub returns-in_default-2-clause-value : goal.returns-in_default-2-clause-value
returns-in_default-2-clause-value c = λ other. high_refuses c.args.sign c.args.bits c.args.byte c.from-value.result c.in-Signed-2.is c.requires.some c.requires.fits c.from-value.ensures c.if-value-ge64.true c.if-value-half-3.false
